mod Built
mod Collected
mod Fitting
mod Sets
