-- What a lane has learnt of a place for keys, by the entry in its notes. Only contracts of private functions cite it.
use Rattle.std.specs.Prelude.{Bool, true, false}
use Rattle.ext_tree.specs.declared.learnt.Learnt.{Learnt}
use Rattle.ext_tree.specs.declared.learnt.Learnt.TheVariants.{Nothing, Shown, Placed}

-- The lane knows which key the place holds.
abbrev pub knows_key : Learnt → Bool
knows_key Nothing = false
knows_key Shown = true
knows_key Placed = true

-- The lane put the key there itself.
abbrev pub put_key : Learnt → Bool
put_key Nothing = false
put_key Shown = false
put_key Placed = true
