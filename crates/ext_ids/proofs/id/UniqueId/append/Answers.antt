use Rattle.std.proofs.Common.{◌≡◌, ◌∙◌, ◌++◌, ◌∷◌, [], ℕ, List, Option, None, ap, arith, inl, inr, length, refl, sym}
use Rattle.ext_ids.specs.Grammar.{IsId, Pair}
use Rattle.ext_ids.specs.Making.{fault_at, parts_fault}
use Rattle.ext_ids.specs.declared.making.PartFault.{PartFault}
use Rattle.ext_ids.proofs.MadeIds.{is_id, one_more}
use Rattle.ext_ids.proofs.id.UniqueId.append.Goals as goal

-- the fault of an id with one part more, by its count of segments
told : (id : List Pair) (part : Pair) (count : ℕ) (fault : Option PartFault) → IsId id → count ≡ length id → fault ≡ fault_at count part → parts_fault (id ++ part ∷ []) ≡ fault
told id part count fault h same found = one_more id part h ∙ ap (λ n. fault_at n part) (sym same) ∙ sym found

pub returns-in-Some : goal.returns-in-Some
returns-in-Some c =
    let id : IsId c.args.self.now = rw (← c.self.view_is) c.self.invariant in
    let count : c.len.result ≡ length c.args.self.now = omega (arith, ap length c.self.view_is, c.len.ensures) in
    record { made = inl (told c.args.self.now (c.args.kind.now, c.args.value.now) c.len.result _ id count c.in-Some.ensures) }

pub returns-in-Ok : goal.returns-in-Ok
returns-in-Ok c =
    let id : IsId c.args.self.now = rw (← c.self.view_is) c.self.invariant in
    let count : c.len.result ≡ length c.args.self.now = omega (arith, ap length c.self.view_is, c.len.ensures) in
    let none = told c.args.self.now (c.args.kind.now, c.args.value.now) c.len.result None id count c.in_default.ensures in
    record { made = (is_id _ none, c.in-Ok.ensures ∙ ap (λ xs. xs ++ (c.args.kind.now, c.args.value.now) ∷ []) c.self.view_is) }

pub returns-in-Err : goal.returns-in-Err
returns-in-Err c =
    let id : IsId c.args.self.now = rw (← c.self.view_is) c.self.invariant in
    let count : c.len.result ≡ length c.args.self.now = omega (arith, ap length c.self.view_is, c.len.ensures) in
    let none = told c.args.self.now (c.args.kind.now, c.args.value.now) c.len.result None id count c.in_default.ensures in
    record { made = inr (refl, is_id _ none) }
