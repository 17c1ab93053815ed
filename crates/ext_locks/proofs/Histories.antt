-- Laws of lock histories.
use Rattle.std.proofs.Common.{◌≡◌, ◌≢◌, ◌==◌, ◌&&◌, ◌<◌, ◌≤◌, ℕ, Bool, true, false, if◌then◌else◌, [], ◌∷◌, ◌++◌, inl, inr, refl, sym, ap, ◌∙◌, subst, true≢false, fold}
use Rattle.std.proofs.lemmas.Bool.{eqb-true, eqb-false, and_parts, cond-true, cond-false, both_ways, false_from_ne_true}
use Rattle.std.proofs.lemmas.List.Sums.{fold-append}
use Rattle.ext_history.proofs.Lists.{bools}
use Rattle.ext_history.proofs.Lanes.{own_yes, own_not}
use Rattle.ext_history.proofs.Legal.{legal_induct}
use Rattle.ext_history.proofs.ByLanes.{none_beyond, no_lane_no_event}
use Rattle.ext_locks.specs.declared.event.LockMode.{LockMode}
use Rattle.ext_locks.specs.declared.event.LockMode.TheVariants.{Read, ReadWrite}
use Rattle.ext_locks.specs.declared.event.LockEvent.{LockEvent}
use Rattle.ext_locks.specs.History.{LockHistory, lane_of, same_mode, is_about, holds_then, holds, own, IsFree, IsAllowedAs, IsAllowed, IsLegal, IsLawful}

pub same_mode-true : (m n : LockMode) → same_mode m n ≡ true → m ≡ n
same_mode-true Read Read e = refl
same_mode-true Read ReadWrite e = absurd (cc)
same_mode-true ReadWrite Read e = absurd (cc)
same_mode-true ReadWrite ReadWrite e = refl

pub same_mode_self : (m : LockMode) → same_mode m m ≡ true
same_mode_self Read = refl
same_mode_self ReadWrite = refl

pub record About (e : LockEvent) (k : ℕ) (m : LockMode) (l : ℕ) : Type 0 where
  pub lock : e.lock ≡ k
  pub lane : e.lane ≡ l
  pub mode : e.mode ≡ m

pub about : (e : LockEvent) (k : ℕ) (m : LockMode) (l : ℕ) → is_about e k m l ≡ true → About e k m l
about e k m l is =
    let p = and_parts ((e.lock == k) && (e.lane == l)) (same_mode e.mode m) is in
    let q = and_parts (e.lock == k) (e.lane == l) p.0 in
    record { lock = eqb-true _ _ q.0; lane = eqb-true _ _ q.1; mode = same_mode-true _ _ p.1 }

-- one event more
pub holds-push : (h : LockHistory) (e : LockEvent) (k : ℕ) (m : LockMode) (l : ℕ) → holds (h ++ e ∷ []) k m l ≡ (if is_about e k m l then e.takes else holds h k m l)
holds-push h e k m l = fold-append (holds_then k m l) false h (e ∷ [])

-- an event on another lock, or of another lane, changes nothing
pub other_lock : (e : LockEvent) (h : LockHistory) (k : ℕ) (m : LockMode) (l : ℕ) → e.lock ≢ k → holds (h ++ e ∷ []) k m l ≡ holds h k m l
other_lock e h k m l ne = holds-push h e k m l ∙ cond-false (is_about e k m l) e.takes (holds h k m l) (false_from_ne_true _ (λ is. ne (about e k m l is).lock))

-- what a lane holds is decided by its own events
from_own : (h : LockHistory) (b : Bool) (k : ℕ) (m : LockMode) (l : ℕ) → fold (holds_then k m l) b h ≡ fold (holds_then k m l) b (own l h)
from_own [] b k m l = refl
from_own (e ∷ h) b k m l = elim (bools (e.lane == l)) [
  | inl mine ↦ from_own h (holds_then k m l b e) k m l ∙ ap (fold (holds_then k m l) b) (sym (own_yes lane_of l e h mine))
  | inr not_mine ↦
      ap (λ c. fold (holds_then k m l) c h) (cond-false (is_about e k m l) e.takes b (false_from_ne_true _ (λ is. eqb-false _ _ not_mine (about e k m l is).lane)))
      ∙ (from_own h b k m l ∙ ap (fold (holds_then k m l) b) (sym (own_not lane_of l e h not_mine)))
]

pub by_own : (h : LockHistory) (k : ℕ) (m : LockMode) (l : ℕ) → holds h k m l ≡ holds (own l h) k m l
by_own h k m l = from_own h false k m l

pub none_held : (h : LockHistory) (k : ℕ) (m : LockMode) (l : ℕ) → own l h ≡ [] → holds h k m l ≡ false
none_held h k m l none = by_own h k m l ∙ ap (λ o. holds o k m l) none

pub same_held : (h g : LockHistory) (k : ℕ) (m : LockMode) (l : ℕ) → own l h ≡ own l g → holds h k m l ≡ holds g k m l
same_held h g k m l same = by_own h k m l ∙ (ap (λ o. holds o k m l) same ∙ sym (by_own g k m l))

-- a lock that is free for a mode is not written
not_beside : (h : LockHistory) (k : ℕ) (m : LockMode) (l w : ℕ) → IsFree h k m → holds h k ReadWrite w ≡ true → ⊥
not_beside h k Read l w free writes = both_ways _ (free w) writes
not_beside h k ReadWrite l w free writes = both_ways _ (free w ReadWrite) writes

lawful_more : (lanes : ℕ) (e : LockEvent) (h : LockHistory) → IsAllowed lanes h e → IsLawful h → IsLawful (h ++ e ∷ [])
lawful_more lanes e h may old k w l m writes holds_it =
    split (is_about e k ReadWrite w) refl (is_about e k m l) refl
  where
    takes : (n : LockMode) (o : ℕ) → is_about e k n o ≡ true → holds (h ++ e ∷ []) k n o ≡ true → IsFree h k n
    takes n o is it =
        let t : e.takes ≡ true = sym (holds-push h e k n o ∙ cond-true (is_about e k n o) e.takes (holds h k n o) is) ∙ it in
        let a = about e k n o is in
        let free : IsFree h e.lock e.mode = subst (λ b. IsAllowedAs b h e) t may.may in
        subst (λ (x : ℕ × LockMode). IsFree h x.0 x.1) (λ i. (a.lock i, a.mode i)) free

    before : (n : LockMode) (o : ℕ) → is_about e k n o ≡ false → holds (h ++ e ∷ []) k n o ≡ true → holds h k n o ≡ true
    before n o isnt it = sym (holds-push h e k n o ∙ cond-false (is_about e k n o) e.takes (holds h k n o) isnt) ∙ it

    split : (b : Bool) → is_about e k ReadWrite w ≡ b → (c : Bool) → is_about e k m l ≡ c → w ≡ l
    split true is true is' = sym (about e k ReadWrite w is).lane ∙ (about e k m l is').lane
    split true is false isnt' = absurd (both_ways _ (takes ReadWrite w is writes l m) (before m l isnt' holds_it))
    split false isnt true is' = absurd (not_beside h k m l w (takes m l is' holds_it) (before ReadWrite w isnt writes))
    split false isnt false isnt' = old k w l m (before ReadWrite w isnt writes) (before m l isnt' holds_it)

pub lawful : (lanes : ℕ) (h : LockHistory) → IsLegal lanes h → IsLawful h
lawful lanes h legal = legal_induct (IsAllowed lanes) IsLawful (λ k w l m writes holds_it. absurd (true≢false (sym writes))) (λ g e was old may. lawful_more lanes e g may old) h legal

-- only the lanes that there are make events
pub unmade : (lanes : ℕ) (h : LockHistory) → IsLegal lanes h → (l : ℕ) → lanes ≤ l → own l h ≡ []
unmade lanes h legal l many = none_beyond lane_of (IsAllowed lanes) lanes (λ before e may. may.lane) l many h legal

-- where none of them made one, there is none
pub nothing_yet : (lanes : ℕ) (h : LockHistory) → IsLegal lanes h → ((l : ℕ) → l < lanes → own l h ≡ []) → h ≡ []
nothing_yet lanes h legal none = no_lane_no_event lane_of (IsAllowed lanes) lanes (λ before e may. may.lane) h legal none

pub free_unwritten : (h : LockHistory) (k : ℕ) (m : LockMode) → IsFree h k m → (l : ℕ) → holds h k ReadWrite l ≡ false
free_unwritten h k Read free l = free l
free_unwritten h k ReadWrite free l = free l ReadWrite
