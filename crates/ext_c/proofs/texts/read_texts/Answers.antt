use Rattle.std.proofs.Common.{refl, rules, ◌≤◌, get_or, length, inl, inr}
use Rattle.ext_c.specs.declared.code.Code.TheVariants as code
use Rattle.ext_c.specs.Texts.{IsNoText}
use Rattle.ext_c.proofs.Cut.{cut_all, cut_first, cut_next, fault_here, fault_next, first_text, no_utf8_here, well_all, well_next}
use Rattle.ext_c.proofs.texts.read_texts.Goals as goal

pub loop-length-init : goal.loop-length-init
loop-length-init c = record { cut = λ whole. cut_first c.args.bytes.now c.args.lengths.now c.new-texts.result.items c.new-texts.ensures.items; well = λ w. w; fault = λ said f. f }

pub returns-in_default-clause-refused : goal.returns-in_default-clause-refused
returns-in_default-clause-refused c =
    inl (fault_here c.args.bytes.now c.args.lengths.now c.loop-length.rest.now c.loop-length.length-index 0 c.loop-length-test.true (get_or c.args.lengths.now c.loop-length.length-index 0) code.BadLengths
    c.loop-length.invariant.fault refl (IsNoText.too_long c.in_default.ensures.cases))

pub returns-in_default-from_utf8-clause-refused : goal.returns-in_default-from_utf8-clause-refused
returns-in_default-from_utf8-clause-refused c =
    let n = get_or c.args.lengths.now c.loop-length.length-index 0 in
    let within : n ≤ length c.loop-length.rest.now = search rules in
    inl (fault_here c.args.bytes.now c.args.lengths.now c.loop-length.rest.now c.loop-length.length-index 0 c.loop-length-test.true n code.BadText c.loop-length.invariant.fault refl
    (no_utf8_here c.loop-length.rest.now c.in-Some.own.now n within c.in-Some.ensures.cases.1 c.in_default-from_utf8.ensures.cases.0))

pub loop-length-preserved : goal.loop-length-preserved
loop-length-preserved c =
    let n = get_or c.args.lengths.now c.loop-length.length-index 0 in
    let within : n ≤ length c.loop-length.rest.now = search rules in
    let first = first_text c.loop-length.rest.now c.in-Some.own.now n within c.in-Some.ensures.cases.1 c.in-Ok.ensures.cases.1 in
    record {
      cut = λ whole. cut_next c.args.bytes.now c.args.lengths.now c.loop-length.rest.now c.in-Some.after.now c.in-Some.own.now c.loop-length.texts.items c.adds-is_whole.new.texts.items c.in-Ok.text c.loop-length.length-index _ _
          (c.loop-length.invariant.cut (c.adds-is_whole.ensures.whole whole)) c.loop-length-test.true refl c.in-Some.ensures.cases.1 c.in-Some.ensures.cases.2 c.in-Ok.ensures.cases.0 (c.adds-is_whole.ensures.added whole);
      well = well_next c.args.bytes.now c.args.lengths.now c.loop-length.rest.now c.loop-length.length-index 0 c.loop-length-test.true n c.in-Some.after.now c.loop-length.invariant.well refl c.in-Some.ensures.cases.2 first;
      fault = fault_next c.args.bytes.now c.args.lengths.now c.loop-length.rest.now c.loop-length.length-index 0 c.loop-length-test.true n c.in-Some.after.now c.loop-length.invariant.fault refl c.in-Some.ensures.cases.2 first;
    }

pub returns-then-is_whole-clause-texts : goal.returns-then-is_whole-clause-texts
returns-then-is_whole-clause-texts c =
    cut_all c.args.bytes.now c.args.lengths.now c.loop-length.rest.now c.loop-length.texts.items c.loop-length.length-index (c.loop-length.invariant.cut c.if-is_whole.true) c.loop-length-test.false

pub returns-then-is_whole-clause-well : goal.returns-then-is_whole-clause-well
returns-then-is_whole-clause-well c = well_all c.args.bytes.now c.args.lengths.now c.loop-length.rest.now c.loop-length.length-index c.loop-length.invariant.well c.loop-length-test.false

pub returns-clause-refused : goal.returns-clause-refused
returns-clause-refused c =
    inr (well_all c.args.bytes.now c.args.lengths.now c.loop-length.rest.now c.loop-length.length-index c.loop-length.invariant.well c.loop-length-test.false, refl)
