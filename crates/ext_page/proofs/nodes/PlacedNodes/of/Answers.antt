use Rattle.std.proofs.Common.{rules, ◌≡◌, ◌+◌, length, refl, Some, [], ◌∷◌, ◌++◌, take, ap, sym, subst, ◌∙◌, arith}
use Rattle.std.proofs.lemmas.Grind.{common_steps}
use Rattle.std.specs.Prelude.{slice_get}
use Rattle.std.proofs.lemmas.List.{take_more}
use Rattle.std.proofs.lemmas.Option.{slice_get_read}
use Rattle.ext_page.specs.Nodes.{ArePlaces, HaveParents, IsParentPlace, IsPlaceOfNext, place_of_next}
use Rattle.ext_page.proofs.Places.{parents-more, place-next, places-more}
use Rattle.ext_page.proofs.nodes.PlacedNodes.of.Goals as goal

pub loop-ran-preserved : goal.loop-ran-preserved
loop-ran-preserved c =
    let ran = c.ran-item.result in
    let before = take c.loop-ran.ran-index c.args.results.now in
    let step : take (c.loop-ran.ran-index + 1) c.args.results.now ≡ before ++ ran ∷ []
    = take_more c.args.results.now c.loop-ran.ran-index ran c.loop-ran-test.true ∙ ap (λ r. before ++ r ∷ []) (sym c.ran-item.is) in
    record {
      count = search rules;
      sizes = search rules;
      names = grind (arith, common_steps);
      parents =
          let at = c.loop-ran.invariant.count in
          let results = c.args.results.now in
          let next = c.parent_place.ensures in
          let stands : slice_get results (length c.loop-ran.nodes.items) ≡ Some ran
          = ap (λ i. slice_get results i) at ∙ slice_get_read results (length results) c.loop-ran.ran-index ran refl c.loop-ran-test.true c.ran-item.is in
          let placed : c.parent_place.result ≡ place_of_next c.loop-ran.places.items (slice_get next.0 1) = search rules in
          let place : IsPlaceOfNext before (slice_get next.0 1) c.parent_place.result
          = subst (IsPlaceOfNext before (slice_get next.0 1)) (sym placed) (place-next before c.loop-ran.places.items (slice_get next.0 1) c.loop-ran.invariant.places) in
          let parent : IsParentPlace c.args.tree.now before ran.node c.parent_place.result = record { path = next.0; is_path = next.1; is_next = place } in
          subst (HaveParents c.args.tree.now results) (sym c.in_ok-push.ensures.items)
          (parents-more c.args.tree.now results c.loop-ran.nodes.items ran _ stands
          (subst (λ i. IsParentPlace c.args.tree.now (take i results) ran.node c.parent_place.result) (sym at) parent) c.loop-ran.invariant.parents);
      places = subst (λ rs. ArePlaces rs c.set_place.new.places.items) (sym step) (subst (ArePlaces (before ++ ran ∷ [])) (sym c.set_place.ensures)
          (places-more before ran c.loop-ran.places.items c.len-place.result (search rules) (search rules) c.loop-ran.invariant.places));
      statuses = grind (arith, common_steps);
      tests = grind (arith, common_steps);
    }
