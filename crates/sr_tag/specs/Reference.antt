-- What a reference is: the tag of its realm, and the place of its record.
use Rattle.std.specs.Prelude.{ℕ}
use Rattle.sr_tag.specs.declared.reference.Tag.{Tag}

pub record Reference : Type 0 where
  pub tag : Tag
  pub place : ℕ
