-- What the workers have drawn is a dealing of the jobs.
use Rattle.std.proofs.Common.{◌≡◌, ℕ, suc, ◌+◌, ◌<◌, ◌≤◌, cond, List, [], ◌∷◌, ◌++◌, length, map, ap, ◌∙◌, sym, refl, arith, append_assoc}
use Rattle.std.specs.Prelude.{All, ltb, flat_map}
use Rattle.std.specs.List.{concat}
use Rattle.std.proofs.lemmas.List.{length-map}
use Rattle.std.proofs.lemmas.List.Elements.{All-head, All-tail}
use Rattle.atomic_table.specs.Seated.{TableId}
use Rattle.ext_crew.specs.Dealing.{times, IsDealing}
use Rattle.ext_crew.specs.declared.jobs.done.Done.{Done}
use Rattle.ext_crew.specs.InnerCounter.{Hand, together}
use Rattle.ext_crew.specs.InnerHands.{jobs_done, draws_of, given_of, HasWorked, IsFirst}
use Rattle.ext_crew.proofs.Totals.{times-append, ends_none, is_below, once_if, same_once, other_none}

module _ {T O : Type 0} (table : TableId) (items : List T) where
  -- a hand's draws are its jobs and then an end
  draws_are : (h : Hand T O) → (w : HasWorked table items h) → draws_of h ≡ jobs_done h ++ w.ended.end ∷ []
  draws_are h w = ap (λ m. m.0.draws) w.ended.left

  -- below the number of items the draws are the jobs
  same_times : (hands : List (Hand T O)) → All (λ h. HasWorked table items h) hands → (x : ℕ) → x < length items → times x (concat (map jobs_done hands)) ≡ times x (flat_map draws_of hands)
  same_times [] all x l = refl
  same_times (h ∷ hs) all x l =
      let P : Hand T O → Type 0 = λ k. HasWorked table items k in
      let w = All-head P h hs all in
      let past = w.ended.past in
      let here : times x (draws_of h) ≡ times x (jobs_done h ++ w.ended.end ∷ []) = ap (times x) (draws_are h w) in
      let a = times-append x (jobs_done h) (w.ended.end ∷ []) in
      let none = other_none w.ended.end x (omega (arith, past, l)) in
      let b = times-append x (jobs_done h) (concat (map jobs_done hs)) in
      let c = times-append x (draws_of h) (flat_map draws_of hs) in
      let rest = same_times hs (All-tail P h hs all) x l in
      omega (arith, here, a, none, b, c, rest)

  -- and from there on there are no jobs
  no_times : (hands : List (Hand T O)) → All (λ h. HasWorked table items h) hands → (x : ℕ) → length items ≤ x → times x (concat (map jobs_done hands)) ≡ 0
  no_times [] all x l = refl
  no_times (h ∷ hs) all x l =
      let P : Hand T O → Type 0 = λ k. HasWorked table items k in
      let w = All-head P h hs all in
      let here = ends_none (length items) (jobs_done h) w.ended.no_end x l in
      let b = times-append x (jobs_done h) (concat (map jobs_done hs)) in
      let rest = no_times hs (All-tail P h hs all) x l in
      omega (arith, here, b, rest)

  -- a hand has drawn an end, so every job was drawn
  all_drawn : (hands : List (Hand T O)) → 0 < length hands → All (λ h. HasWorked table items h) hands
      → (drawn : ℕ) → ((x : ℕ) → times x (flat_map draws_of hands) ≡ cond (ltb x drawn) 1 0) → length items < drawn
  all_drawn [] some all drawn once = absurd (omega (arith, some))
  all_drawn (h ∷ hs) some all drawn once =
      let P : Hand T O → Type 0 = λ k. HasWorked table items k in
      let w = All-head P h hs all in
      let e = w.ended.end in
      let past = w.ended.past in
      let here : times e (draws_of h) ≡ times e (jobs_done h ++ e ∷ []) = ap (times e) (draws_are h w) in
      let a = times-append e (jobs_done h) (e ∷ []) in
      let one = same_once e in
      let c = times-append e (draws_of h) (flat_map draws_of hs) in
      let is = once e in
      let below : e < drawn = is_below e drawn 1 (omega arith) (omega (arith, here, a, one, c, is)) in
      omega (arith, past, below)

  -- one more hand is taken in
  pub joined-step : (first new hand : Hand T O) (left more : ℕ) → HasWorked table items hand → more ≡ suc left → IsFirst table first more
      → new.table_id ≡ first.table_id → new.me ≡ (together first.me.0 hand.me.0, first.me.1) → IsFirst table new left
  joined-step first new hand left more w count is same joined =
      let parts : new.me.0.parts ≡ first.me.0.parts + hand.me.0.parts = ap (λ m. m.0.parts) joined in
      let one : hand.me.0.parts ≡ 1 = ap (λ m. m.0.parts) w.ended.left in
      let all = is.parts in
      let had = is.some in
      record {
        same_table = same ∙ is.same_table;
        parts = omega (arith, parts, one, all, count);
        some = omega (arith, parts, had);
      }

  -- and what it has drawn and given back stands behind what was there
  pub drawn-step : (first new hand : Hand T O) (hands rest : List (Hand T O)) (all : List ℕ) → hands ≡ hand ∷ rest
      → new.me ≡ (together first.me.0 hand.me.0, first.me.1) → first.me.0.draws ++ flat_map draws_of hands ≡ all → new.me.0.draws ++ flat_map draws_of rest ≡ all
  drawn-step first new hand hands rest all taken joined so_far =
      ap (λ m. m.0.draws ++ flat_map draws_of rest) joined
      ∙ (append_assoc first.me.0.draws (draws_of hand) (flat_map draws_of rest)
      ∙ (ap (λ (l : List (Hand T O)). first.me.0.draws ++ flat_map draws_of l) (sym taken) ∙ so_far))

  pub given-step : (first new hand : Hand T O) (hands rest : List (Hand T O)) (all : List (Done O)) → hands ≡ hand ∷ rest
      → new.me ≡ (together first.me.0 hand.me.0, first.me.1) → first.me.0.given ++ flat_map given_of hands ≡ all → new.me.0.given ++ flat_map given_of rest ≡ all
  given-step first new hand hands rest all taken joined so_far =
      ap (λ m. m.0.given ++ flat_map given_of rest) joined
      ∙ (append_assoc first.me.0.given (given_of hand) (flat_map given_of rest)
      ∙ (ap (λ (l : List (Hand T O)). first.me.0.given ++ flat_map given_of l) (sym taken) ∙ so_far))

  pub dealt : (hands : List (Hand T O)) (jobs workers : ℕ) → length items ≡ jobs → length hands ≡ workers → 0 < workers → All (λ h. HasWorked table items h) hands
      → (drawn : ℕ) × ((x : ℕ) → times x (flat_map draws_of hands) ≡ cond (ltb x drawn) 1 0) → IsDealing jobs workers (map jobs_done hands)
  dealt hands jobs workers count len some all drew =
      let past = all_drawn hands (omega (arith, len, some)) all drew.0 drew.1 in
      record {
        lists = length-map hands jobs_done ∙ len;
        once = λ job below. same_times hands all job (omega (arith, below, count)) ∙ (drew.1 job ∙ once_if job drew.0 (omega (arith, below, count, past)));
        none = λ job over. no_times hands all job (omega (arith, over, count));
      }
