-- What one event does to what a history leaves, and so to the words.
use Rattle.std.proofs.Common.{◌≡◌, ℕ, ◌+◌, true, false, cond, [], ◌∷◌, ◌++◌, ap, ◌∙◌, arith, nat_eq}
use Rattle.std.specs.Prelude.{if◌then◌else◌}
use Rattle.std.proofs.lemmas.List.Sums.{sum_by_push, fold-append}
use Rattle.ext_model.specs.declared.event.Event.{Event}
use Rattle.ext_model.specs.State.{opening}
use Rattle.ext_model.specs.Events.{is_on, slot_after, drawn_after, apply}
use Rattle.ext_model.specs.History.{History, state_after, version_of}
use Rattle.ext_model.specs.CellWords.{state_code, number_code, word, word_of}

pub after-push : (h : History) (e : Event ℕ) → state_after (h ++ e ∷ []) ≡ apply nat_eq (state_after h) e
after-push h e = fold-append (apply nat_eq) opening h (e ∷ [])

pub version-push : (h : History) (e : Event ℕ) (cell : ℕ) → version_of (h ++ e ∷ []) cell ≡ version_of h cell + cond (is_on nat_eq cell e.act) 1 0
version-push h e cell = sum_by_push _ h e

pub slots-push : (h : History) (e : Event ℕ) (cell : ℕ) → (state_after (h ++ e ∷ [])).slots cell ≡ (if is_on nat_eq cell e.act then slot_after e.lane e.act ((state_after h).slots cell) else (state_after h).slots cell)
slots-push h e cell = ap (λ s. s.slots cell) (after-push h e)

-- the cell of the event has the next version and what the act leaves
pub word-event : (h : History) (e : Event ℕ) (cell : ℕ) → is_on nat_eq cell e.act ≡ true
    → word_of (h ++ e ∷ []) cell ≡ word (state_code (slot_after e.lane e.act ((state_after h).slots cell))) (number_code (slot_after e.lane e.act ((state_after h).slots cell))) (version_of h cell + 1)
word-event h e cell on =
    let slots = slots-push h e cell ∙ ap (λ b. if b then slot_after e.lane e.act ((state_after h).slots cell) else (state_after h).slots cell) on in
    let versions = version-push h e cell ∙ ap (λ b. version_of h cell + cond b 1 0) on in
    ap (λ x. word (state_code x) (number_code x) (version_of (h ++ e ∷ []) cell)) slots
    ∙ ap (λ v. word (state_code (slot_after e.lane e.act ((state_after h).slots cell))) (number_code (slot_after e.lane e.act ((state_after h).slots cell))) v) versions

-- and every other cell keeps its word
pub word-elsewhere : (h : History) (e : Event ℕ) (cell : ℕ) → is_on nat_eq cell e.act ≡ false → word_of (h ++ e ∷ []) cell ≡ word_of h cell
word-elsewhere h e cell off =
    let slots = slots-push h e cell ∙ ap (λ b. if b then slot_after e.lane e.act ((state_after h).slots cell) else (state_after h).slots cell) off in
    let none : version_of h cell + cond false 1 0 ≡ version_of h cell = omega arith in
    let versions = version-push h e cell ∙ ap (λ b. version_of h cell + cond b 1 0) off ∙ none in
    ap (λ x. word (state_code x) (number_code x) (version_of (h ++ e ∷ []) cell)) slots ∙ ap (λ v. word (state_code ((state_after h).slots cell)) (number_code ((state_after h).slots cell)) v) versions

pub drawn-push : (h : History) (e : Event ℕ) → (state_after (h ++ e ∷ [])).drawn ≡ drawn_after e.act (state_after h).drawn
drawn-push h e = ap (λ s. s.drawn) (after-push h e)
