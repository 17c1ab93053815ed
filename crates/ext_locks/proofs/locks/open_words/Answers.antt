use Rattle.std.proofs.Common.{◌≡◌, arith, sym, refl, ap, ◌∙◌, subst}
use Rattle.std.proofs.lemmas.List.{length-map}
use Rattle.ext_locks.specs.Opening.{AreLimits, fresh_lanes}
use Rattle.ext_locks.proofs.Texts.{names_count, sorted_texts}
use Rattle.ext_locks.proofs.locks.open_words.Goals as goal

pub zero_table-requires : goal.zero_table-requires
zero_table-requires c = c.requires.limits.1

pub returns : goal.returns
returns c =
    let few = length-map c.args.names.now (λ t. t.now) in
    let most = c.requires.names in
    record {
      limits = c.requires.limits;
      few = omega (arith, few, most);
      different = c.requires.different;
      same_names = c.in_ok-names.ensures.names;
      sorted = sorted_texts c.in_ok-names.names.items c.in_ok-names.ensures.sorted;
      same_lanes = ap (λ t. t.shared.key.lanes) c.of.ensures ∙ ap (λ x. x.lanes) c.in_ok-table.ensures.1;
      same_tries = refl;
      lanes_made = subst (λ t. c.in_ok-made.made.items ≡ fresh_lanes t.shared.table_id c.args.lanes c.args.lanes) (sym c.of.ensures) c.in_ok-made.ensures.0;
    }

pub invariant_of-result : goal.invariant_of-result
invariant_of-result c =
    let key = ap (λ t. t.shared.key) c.of.ensures ∙ c.in_ok-table.ensures.1 in
    let words = ap (λ t. t.shared.table_id.words) c.of.ensures ∙ c.in_ok-table.ensures.0 in
    let locks = ap (λ x. x.locks) key in
    let names = c.len-locks.ensures in
    let same = names_count c.args.names.now c.in_ok-names.names.items c.in_ok-names.ensures.names in
    let few = c.requires.names in (
      locks ∙ sym words,
      omega (arith, locks, names),
      omega (arith, same, few),
      c.in_ok-names.ensures.sorted,
      c.in_ok-names.ensures.different,
      subst (λ n. AreLimits 32 n c.args.tries) (sym (ap (λ x. x.lanes) key)) c.requires.limits,
    )
