-- The end of a block: many seals at once.
use Rattle.std.proofs.Common.{◌≡◌, ◌≢◌, ℕ, ◌+◌, ◌<◌, inl, inr, Bool, true, false, cond, List, [], ◌∷◌, ◌++◌, refl, ap, sym, subst, ◌∙◌, arith, append_assoc, append-nil, nat_eq, eq-eqb, None, Contains}
use Rattle.std.specs.Prelude.{if◌then◌else◌}
use Rattle.std.specs.List.{IsDistinct, AllByRecursion}
use Rattle.std.proofs.lemmas.Bool.{ne_eqb}
use Rattle.std.proofs.lemmas.Map.Keys.{IsDistinct-head, IsDistinct-tail}
use Rattle.ext_history.proofs.Lists.{contains_none, contains_here, contains_later, contains_cons}
use Rattle.ext_history.proofs.Legal.{legal_push}
use Rattle.ext_history.proofs.Lanes.{own_push, own_push_other}
use Rattle.ext_model.specs.declared.event.Act.TheVariants.{Seal}
use Rattle.ext_model.specs.State.{opening}
use Rattle.ext_model.specs.Events.{slot_after}
use Rattle.ext_model.specs.Allowed.{IsOpen}
use Rattle.ext_model.specs.Closing.{IsSealedUnused}
use Rattle.ext_model.specs.History.{History, Limits, by, lane_of, own, state_after, version_of, IsAllowed, IsLegal}
use Rattle.ext_model.proofs.Allowed.{allowed}
use Rattle.ext_model.proofs.Versions.{slot_stays}
use Rattle.ext_model.proofs.Words.{version-push, slots-push, drawn-push}
use Rattle.ext_cells.specs.Standings.{seals, MayEnd}

-- where a cell had no event nothing stands
pub nothing : (h : History) (cell : ℕ) → version_of h cell ≡ 0 → (state_after h).slots cell ≡ None
nothing h cell none = slot_stays h opening cell none

off : (c x : ℕ) → c ≢ x → nat_eq c x ≡ false
off c x ne = ne_eqb c x ne

version_off : (h : History) (lane c x : ℕ) → nat_eq c x ≡ false → version_of (h ++ by lane (Seal c) ∷ []) x ≡ version_of h x
version_off h lane c x is =
    let none : version_of h x + cond false 1 0 ≡ version_of h x = omega arith in
    version-push h (by lane (Seal c)) x ∙ ap (λ b. version_of h x + cond b 1 0) is ∙ none

slot_at : (h : History) (lane c x : ℕ) (b : Bool) → nat_eq c x ≡ b → (state_after (h ++ by lane (Seal c) ∷ [])).slots x ≡ (if b then slot_after lane (Seal c) ((state_after h).slots x) else (state_after h).slots x)
slot_at h lane c x b is = slots-push h (by lane (Seal c)) x ∙ ap (λ z. if z then slot_after lane (Seal c) ((state_after h).slots x) else (state_after h).slots x) is

slot_off : (h : History) (lane c x : ℕ) → nat_eq c x ≡ false → (state_after (h ++ by lane (Seal c) ∷ [])).slots x ≡ (state_after h).slots x
slot_off h lane c x is = slot_at h lane c x false is

-- ---- elsewhere

pub slots_elsewhere : (h : History) (lane : ℕ) (cells : List ℕ) (cell : ℕ) → (Contains cells cell → ⊥) → (state_after (h ++ seals lane cells)).slots cell ≡ (state_after h).slots cell
slots_elsewhere h lane [] cell not = ap (λ g. (state_after g).slots cell) (append-nil h)
slots_elsewhere h lane (c ∷ cs) cell not =
    let ne : nat_eq c cell ≡ false = off c cell (λ e. not (subst (λ z. Contains (z ∷ cs) cell) (sym e) (contains_here cell cs))) in
    ap (λ g. (state_after g).slots cell) (sym (append_assoc h (by lane (Seal c) ∷ []) (seals lane cs)))
    ∙ slots_elsewhere (h ++ by lane (Seal c) ∷ []) lane cs cell (λ there. not (contains_later c cs cell there))
    ∙ slot_off h lane c cell ne

pub versions_elsewhere : (h : History) (lane : ℕ) (cells : List ℕ) (cell : ℕ) → (Contains cells cell → ⊥) → version_of (h ++ seals lane cells) cell ≡ version_of h cell
versions_elsewhere h lane [] cell not = ap (λ g. version_of g cell) (append-nil h)
versions_elsewhere h lane (c ∷ cs) cell not =
    let ne : nat_eq c cell ≡ false = off c cell (λ e. not (subst (λ z. Contains (z ∷ cs) cell) (sym e) (contains_here cell cs))) in
    ap (λ g. version_of g cell) (sym (append_assoc h (by lane (Seal c) ∷ []) (seals lane cs)))
    ∙ versions_elsewhere (h ++ by lane (Seal c) ∷ []) lane cs cell (λ there. not (contains_later c cs cell there))
    ∙ version_off h lane c cell ne

pub drawn_stays : (h : History) (lane : ℕ) (cells : List ℕ) → (state_after (h ++ seals lane cells)).drawn ≡ (state_after h).drawn
drawn_stays h lane [] = ap (λ g. (state_after g).drawn) (append-nil h)
drawn_stays h lane (c ∷ cs) =
    ap (λ g. (state_after g).drawn) (sym (append_assoc h (by lane (Seal c) ∷ []) (seals lane cs)))
    ∙ drawn_stays (h ++ by lane (Seal c) ∷ []) lane cs ∙ drawn-push h (by lane (Seal c))

-- ---- the first seal, and the others

not_head : (c : ℕ) (cs : List ℕ) (x : ℕ) → IsDistinct nat_eq (c ∷ cs) → Contains cs x → nat_eq c x ≡ false
not_head c cs x d there = all_at cs x (IsDistinct-head nat_eq c cs d) there
  where
    all_at : (ys : List ℕ) (y : ℕ) → AllByRecursion (λ z. nat_eq c z ≡ false) ys → Contains ys y → nat_eq c y ≡ false
    all_at [] y all there = absurd (contains_none y there)
    all_at (z ∷ zs) y all there = elim (contains_cons z zs y there) [
      | inl same ↦ subst (λ k. nat_eq c k ≡ false) same all.0
      | inr later ↦ all_at zs y all.1 later
    ]

-- what is left of an end after its first seal
rest : {limits : Limits} (h : History) (lane c : ℕ) (cs : List ℕ) → MayEnd limits h (c ∷ cs) → MayEnd limits (h ++ by lane (Seal c) ∷ []) cs
rest h lane c cs may = record {
  distinct = IsDistinct-tail nat_eq c cs may.distinct;
  within = λ x there. may.within x (contains_later c cs x there);
  unused = λ x there. version_off h lane c x (not_head c cs x may.distinct there) ∙ may.unused x (contains_later c cs x there);
}

pub end_legal : (limits : Limits) (h : History) (lane : ℕ) (cells : List ℕ) → IsLegal limits h → lane < limits.lanes → MayEnd limits h cells → IsLegal limits (h ++ seals lane cells)
end_legal limits h lane [] legal below may = subst (IsLegal limits) (sym (append-nil h)) legal
end_legal limits h lane (c ∷ cs) legal below may =
    let here = contains_here c cs in
    let free : IsOpen ((state_after h).slots c) = subst IsOpen (sym (nothing h c (may.unused c here))) tt in
    let can : IsAllowed limits h (by lane (Seal c)) = allowed limits h lane (Seal c) (below, (may.within c here, free)) in
    subst (IsLegal limits) (append_assoc h (by lane (Seal c) ∷ []) (seals lane cs))
    (end_legal limits (h ++ by lane (Seal c) ∷ []) lane cs (legal_push h (by lane (Seal c)) legal can) below (rest h lane c cs may))

first_seal : (h : History) (lane c : ℕ) → version_of h c ≡ 0 → IsSealedUnused (h ++ by lane (Seal c) ∷ []) c
first_seal h lane c none = record {
  version = version-push h (by lane (Seal c)) c ∙ ap (λ b. version_of h c + cond b 1 0) (eq-eqb c c refl) ∙ ap (λ v. v + 1) none;
  slot = slot_at h lane c c true (eq-eqb c c refl) ∙ ap (slot_after lane (Seal c)) (nothing h c none);
}

absent_from : (c : ℕ) (cs : List ℕ) → IsDistinct nat_eq (c ∷ cs) → Contains cs c → ⊥
absent_from c cs d there = let f = not_head c cs c d there in let t : nat_eq c c ≡ true = eq-eqb c c refl in cc (f, t)

pub end_seals : (limits : Limits) (h : History) (lane : ℕ) (cells : List ℕ) (cell : ℕ) → MayEnd limits h cells → Contains cells cell → IsSealedUnused (h ++ seals lane cells) cell
end_seals limits h lane [] cell may there = absurd (contains_none cell there)
end_seals limits h lane (c ∷ cs) cell may there =
    let g = h ++ by lane (Seal c) ∷ [] in
    let none = may.unused c (contains_here c cs) in
    let away = absent_from c cs may.distinct in
    subst (λ k. IsSealedUnused k cell) (append_assoc h (by lane (Seal c) ∷ []) (seals lane cs))
    (elim (contains_cons c cs cell there) [
      | inl same ↦ let first = first_seal h lane c none in subst (IsSealedUnused (g ++ seals lane cs)) same (record { version = versions_elsewhere g lane cs c away ∙ first.version; slot = slots_elsewhere g lane cs c away ∙ first.slot })
      | inr later ↦ end_seals limits g lane cs cell (rest h lane c cs may) later
    ])

-- ---- whose events they are

pub end_own : (h : History) (lane : ℕ) (cells : List ℕ) → own lane (h ++ seals lane cells) ≡ own lane h ++ seals lane cells
end_own h lane [] = ap (own lane) (append-nil h) ∙ sym (append-nil (own lane h))
end_own h lane (c ∷ cs) =
    ap (own lane) (sym (append_assoc h (by lane (Seal c) ∷ []) (seals lane cs)))
    ∙ end_own (h ++ by lane (Seal c) ∷ []) lane cs
    ∙ ap (λ k. k ++ seals lane cs) (own_push lane_of lane h (by lane (Seal c)) refl)
    ∙ append_assoc (own lane h) (by lane (Seal c) ∷ []) (seals lane cs)

pub end_others : (h : History) (lane other : ℕ) (cells : List ℕ) → (other ≡ lane → ⊥) → own other (h ++ seals lane cells) ≡ own other h
end_others h lane other [] ne = ap (own other) (append-nil h)
end_others h lane other (c ∷ cs) ne =
    ap (own other) (sym (append_assoc h (by lane (Seal c) ∷ []) (seals lane cs)))
    ∙ end_others (h ++ by lane (Seal c) ∷ []) lane other cs ne
    ∙ own_push_other lane_of other h (by lane (Seal c)) (λ is. ne (sym is))
