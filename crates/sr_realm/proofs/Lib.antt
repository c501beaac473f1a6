pub mod BoundThere
