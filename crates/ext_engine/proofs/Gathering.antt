-- What ran below several children, together.
use Rattle.std.proofs.Common.{◌≡◌, ◌+◌, ◌≤◌, List, [], ◌∷◌, ◌++◌, length, length-append, map, ap, ◌∙◌, sym, append-nil, append_assoc, arith}
use Rattle.std.specs.Prelude.{Result, Ok, Vec}
use Rattle.std.specs.List.{flat_map}
use Rattle.std.specs.declared.alloc.Global.{Global}
use Rattle.std.proofs.lemmas.Grind.{flat_map-append}
use Rattle.std.proofs.lemmas.List.{length-map, map-append}
use Rattle.ext_engine.specs.declared.node.results.RanNode.{RanNode}
use Rattle.ext_engine.specs.InnerResults.{ran_view, ran_in}

module _ {E : Type 0} (first all : List RanNode) (yielded rest outcomes : List (Result (Vec RanNode Global) E)) (outcome : Result (Vec RanNode Global) E) (more : Vec RanNode Global)
    (listed : yielded ++ outcome ∷ rest ≡ outcomes) (is : outcome ≡ Ok more) (so_far : map ran_view all ≡ map ran_view first ++ flat_map ran_in yielded) where
  -- there is room for what ran below one more child
  pub more_room : length all + length more.items ≤ length first + length (flat_map ran_in outcomes)
  more_room =
      let a = ap length so_far in
      let b = length-map all ran_view in
      let c = length-map first ran_view in
      let d = length-append (map ran_view first) (flat_map ran_in yielded) in
      let e = ap length (ap (flat_map ran_in) (sym listed) ∙ flat_map-append ran_in yielded (outcome ∷ rest)) in
      let f = length-append (flat_map ran_in yielded) (flat_map ran_in (outcome ∷ rest)) in
      let g = length-append (ran_in outcome) (flat_map ran_in rest) in
      let h = ap (λ r. length (ran_in r)) is in
      let i = length-map more.items ran_view in
      omega (arith, a, b, c, d, e, f, g, h, i)
