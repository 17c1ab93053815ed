use Rattle.std.proofs.Common.{rules, ◌≡◌, ◌∷◌, List, length, ap, subst, arith}
use Rattle.std.specs.Prelude.{All}
use Rattle.std.proofs.lemmas.List.Elements.{All-head, All-tail}
use Rattle.ext_crew.specs.InnerCounter.{Hand}
use Rattle.ext_crew.specs.InnerHands.{HasWorked}
use Rattle.ext_crew.proofs.Dealt.{joined-step, drawn-step, given-step}
use Rattle.ext_crew.proofs.Draws.{joins}
use Rattle.ext_crew.proofs.hand.join_hands.Goals as goal

pub join_seat-requires : goal.join_seat-requires
join_seat-requires g c =
    let I = c.loop-hand.invariant in
    let items = c.args.counter.now.key.value.items in
    let taken : c.loop-hand.hand-iterator.rest.items ≡ c.in-Some.hand ∷ c.next.new.self.rest.items = search rules in
    let P : Hand g.row.T.Denot g.row.O.Denot → Type 0 = λ h. HasWorked c.args.counter.now.table_id items h in
    let A : List (Hand g.row.T.Denot g.row.O.Denot) → Type 0 = λ l. All P l in
    let w : P c.in-Some.hand = All-head P c.in-Some.hand c.next.new.self.rest.items (subst A taken I.worked) in (
      I.joined.same_table,
      w.same_table,
      ap (λ m. m.1) w.ended.left,
      (let words = c.requires.counter.0 in omega (arith, words)),
      joins items c.loop-hand.first.id c.loop-hand.first.me.0 c.in-Some.hand.id c.in-Some.hand.me.0 I.joined.some,
    )

pub loop-hand-preserved : goal.loop-hand-preserved
loop-hand-preserved g c =
    let I = c.loop-hand.invariant in
    let items = c.args.counter.now.key.value.items in
    let table = c.args.counter.now.table_id in
    let hand = c.in-Some.hand in
    let rest = c.next.new.self.rest.items in
    let join = c.join_seat.ensures in
    let taken : c.loop-hand.hand-iterator.rest.items ≡ hand ∷ rest = search rules in
    let P : Hand g.row.T.Denot g.row.O.Denot → Type 0 = λ h. HasWorked table items h in
    let A : List (Hand g.row.T.Denot g.row.O.Denot) → Type 0 = λ l. All P l in
    let all = subst A taken I.worked in
    record {
      can = tt;
      finite = tt;
      worked = All-tail P hand rest all;
      joined = joined-step table items c.loop-hand.first c.join_seat.new.seat hand (length rest) (length c.loop-hand.hand-iterator.rest.items) (All-head P hand rest all) (ap length taken) I.joined join.0 join.2;
      draws = drawn-step table items c.loop-hand.first c.join_seat.new.seat hand c.loop-hand.hand-iterator.rest.items rest _ taken join.2 I.draws;
      given = given-step table items c.loop-hand.first c.join_seat.new.seat hand c.loop-hand.hand-iterator.rest.items rest _ taken join.2 I.given;
    }
