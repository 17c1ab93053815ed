-- The results that are reported, one more at a time.
use Rattle.std.proofs.Common.{◌≡◌, ◌∙◌, ◌++◌, ◌∷◌, [], List, Bool, true, filter, map, ap, append_assoc, arith, sym}
use Rattle.std.proofs.lemmas.Grind.{common_steps}
use Rattle.std.proofs.lemmas.List.{map-append}
use Rattle.ext_lifecycle.specs.declared.node_result.NodeResult.{NodeResult}
use Rattle.ext_runner.specs.InnerTelling.{without_faults}

pub reported-more : (p : NodeResult → Bool) (reported more rest : List NodeResult) (ran shown : NodeResult) (all : List NodeResult) → p ran ≡ true → without_faults shown ≡ without_faults ran → more ≡ reported ++ shown ∷ []
    → map without_faults reported ++ map without_faults (filter p (ran ∷ rest)) ≡ all → map without_faults more ++ map without_faults (filter p rest) ≡ all
reported-more p reported more rest ran shown all passes same grown before =
    let kept : filter p (ran ∷ rest) ≡ ran ∷ filter p rest = grind (arith, common_steps) in
    ap (λ (l : List NodeResult). map without_faults l ++ map without_faults (filter p rest)) grown
    ∙ ap (λ (l : List NodeResult). l ++ map without_faults (filter p rest)) (map-append without_faults reported (shown ∷ []))
    ∙ append_assoc (map without_faults reported) (without_faults shown ∷ []) (map without_faults (filter p rest))
    ∙ ap (λ (r : NodeResult). map without_faults reported ++ (r ∷ map without_faults (filter p rest))) same
    ∙ ap (λ (l : List NodeResult). map without_faults reported ++ map without_faults l) (sym kept) ∙ before
