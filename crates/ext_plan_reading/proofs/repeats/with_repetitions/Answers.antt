use Rattle.std.proofs.Common.{rules, ◌≡◌, ◌<◌, ◌++◌, ◌∷◌, [], length, map, ap, sym, ◌∙◌, subst, append_assoc, refl, arith}
use Rattle.std.proofs.lemmas.Grind.{common_steps}
use Rattle.std.proofs.lemmas.List.{length-map}
use Rattle.ext_plan_reading.specs.InnerSketches.{sketch_view}
use Rattle.ext_plan_reading.specs.NodeReading.{repeated, with_repetitions}
use Rattle.ext_plan_reading.proofs.Repetitions.{one_more, no_more, room_at}
use Rattle.ext_plan_reading.proofs.repeats.with_repetitions.Goals as goal

pub push_repeated-requires : goal.push_repeated-requires
push_repeated-requires c =
    let list : c.loop-sketch.yielded ++ c.in-Some.sketch ∷ c.next.new.self.rest.items ≡ c.args.sketches.items = search rules in
    room_at c.loop-sketch.yielded c.next.new.self.rest.items c.args.sketches.items c.in-Some.sketch list c.requires

pub loop-sketch-preserved : goal.loop-sketch-preserved
loop-sketch-preserved c =
    let I = c.loop-sketch.invariant in
    let list : c.loop-sketch.yielded ++ c.in-Some.sketch ∷ c.next.new.self.rest.items ≡ c.args.sketches.items = search rules in
    record {
      can = tt;
      finite = tt;
      items = append_assoc c.loop-sketch.yielded (c.in-Some.sketch ∷ []) c.next.new.self.rest.items ∙ list;
      nodes = c.in_ok-push_repeated.ensures ∙ ap (λ nodes. nodes ++ repeated (sketch_view c.in-Some.sketch) c.in-Some.sketch.repeat) I.nodes ∙ sym (one_more c.loop-sketch.yielded c.in-Some.sketch);
    }

pub returns-clause-all : goal.returns-clause-all
returns-clause-all c =
    let all : c.loop-sketch.yielded ≡ c.args.sketches.items = grind (arith, common_steps) in
    subst (λ seen. map sketch_view c.loop-sketch.nodes.items ≡ with_repetitions (map sketch_view seen)) all c.loop-sketch.invariant.nodes
