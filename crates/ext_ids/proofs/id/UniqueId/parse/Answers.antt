use Rattle.std.proofs.Common.{◌≡◌, ℕ, List, [], Result, Ok, Err, IsOk, is_ok, ap, sym, refl, ◌∙◌}
use Rattle.ext_ids.specs.Grammar.{Pair, IsIdText}
use Rattle.ext_ids.proofs.Firsts.{id_first}
use Rattle.std.proofs.lemmas.Bool.{false≢true, true≢false}
use Rattle.std.proofs.lemmas.Result.{err_from_is_err_and}
use Rattle.ext_ids.specs.declared.fault.IdFault.{IdFault}
use Rattle.ext_ids.specs.declared.fault.IdFault.TheVariants.{Memory}
use Rattle.ext_ids.proofs.Refusals.{id_refused}
use Rattle.ext_ids.specs.Reading.{read_id}
use Rattle.ext_ids.proofs.IdsRead.{id_read}
use Rattle.ext_ids.proofs.IdsFound.{id_found}
use Rattle.ext_ids.proofs.id.UniqueId.parse.Goals as goal

-- a text reads as one list of pairs, or has one fault
not_both : (read : Result (List Pair) IdFault) (pairs : List Pair) (e : IdFault) → read ≡ Ok pairs → read ≡ Err e → ⊥
not_both read pairs e ok err = true≢false (ap is_ok (sym ok ∙ err))

abbrev pairs_of : Result (List Pair) IdFault → List Pair
pairs_of (Ok pairs) = pairs
pairs_of (Err e) = []

abbrev fault_of : Result (List Pair) IdFault → IdFault
fault_of (Ok pairs) = Memory
fault_of (Err e) = e

pub returns-in_err-check-clause-only : goal.returns-in_err-check-clause-only
returns-in_err-check-clause-only c = λ pairs h. absurd
    (not_both _ pairs _ (ap read_id c.as_bytes.ensures.value ∙ id_read c.args.text.now pairs h) c.in_err-check.ensures.fault)

pub returns-clause-found : goal.returns-clause-found
returns-clause-found c = id_found c.args.text.now _ c.in_ok-segments.ensures

pub returns-clause-only : goal.returns-clause-only
returns-clause-only c = λ pairs h. ap pairs_of (sym c.in_ok-segments.ensures ∙ id_read c.args.text.now pairs h)

pub returns-in_err-check-clause-fault : goal.returns-in_err-check-clause-fault
returns-in_err-check-clause-fault c =
    let p = err_from_is_err_and c.from_residual.result c.from_residual.ensures.1 in
    rw (p.1, p.2) (λ _. id_refused c.args.text.now _ (ap read_id (sym c.as_bytes.ensures.value) ∙ c.in_err-check.ensures.fault))

pub returns-in_err-check-clause-first : goal.returns-in_err-check-clause-first
returns-in_err-check-clause-first c = λ what h.
    let p = err_from_is_err_and c.from_residual.result c.from_residual.ensures.1 in
    rw (p.1, p.2) (ap Err (ap fault_of (sym c.in_err-check.ensures.fault ∙ ap read_id c.as_bytes.ensures.value ∙ id_first c.args.text.now what h)))

pub returns-clause-first : goal.returns-clause-first
returns-clause-first c = λ what h. absurd (not_both _ _ what c.in_ok-segments.ensures (id_first c.args.text.now what h))

pub invariant_of-result : goal.invariant_of-result
invariant_of-result c = let h = id_found c.args.text.now _ c.in_ok-segments.ensures in h.id

pub returns-in_err-segments-clause-first : goal.returns-in_err-segments-clause-first
returns-in_err-segments-clause-first c = λ what h. absurd (
    let read : IsOk (read_id c.args.text.now) = rw c.as_bytes.ensures.value at c.in_ok-check.ensures.ok in
    let bad = rw (id_first c.args.text.now what h) at read in false≢true bad)

-- what reads as pairs is their id
id_of : (text : List ℕ) (read : Result (List Pair) IdFault) → read_id text ≡ read → IsOk read → (pairs : List Pair) × IsIdText text pairs
id_of text (Ok pairs) e ok = (pairs, id_found text pairs e)
id_of text (Err x) e ok = absurd (false≢true ok)

pub returns-in_err-segments-clause-memory : goal.returns-in_err-segments-clause-memory
returns-in_err-segments-clause-memory c =
    let p = err_from_is_err_and c.from_residual-in_err-segments.result c.from_residual-in_err-segments.ensures.1 in
    rw (p.1, p.2) (λ _. id_of c.args.text.now (read_id c.args.text.now) refl (rw c.as_bytes.ensures.value at c.in_ok-check.ensures.ok))
