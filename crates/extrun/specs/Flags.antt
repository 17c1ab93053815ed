-- What a flag asks for, and how large a plan may be by one.
use Rattle.std.specs.Prelude.{◌≡◌, ℕ, Bool, true, false, codes, List, Option, Some, None, if◌then◌else◌}
use Rattle.clap.specs.Walk.{Row, one_of}
use Rattle.ext_model.specs.declared.size.Size.{Size}
use Rattle.ext_model.specs.declared.size.Size.TheVariants as sizes

-- A flag, which is set if its text is `true`.
pub record IsFlag (text : Option (List ℕ)) (flag : Bool) : Type 0 where
  pub none : text ≡ None → flag ≡ false
  pub set : text ≡ Some (codes "true") → flag ≡ true
  pub unset : text ≡ Some (codes "false") → flag ≡ false

abbrev pub size_of : Bool → Size
size_of large = if large then sizes.Large else sizes.Usual

-- How large the plan may be: large if `--large` is set.
pub record IsSize (rows : List Row) (size : Size) : Type 0 where
  pub large : Bool
  pub asked : IsFlag (one_of (codes "large") rows) large
  pub size_is : size ≡ size_of large
