-- One order of numbers in both runs: from one part to the next, at fewer places, and where one place at most has something new.
use Rattle.std.proofs.Common.{◌≡◌, ◌≢◌, ℕ, ◌<◌, ◌⊎◌, inl, inr, true, Some, ap, sym, subst, ◌∙◌, arith}
use Rattle.ext_model.specs.History.{History, slots_in}
use Rattle.ext_tree.specs.Keys.{KeyValue}
use Rattle.ext_tree.proofs.KeyPlacing.{one_key, one_number}
use Rattle.ext_plan.specs.Values.{ValueText}
use Rattle.ext_plan_plain.specs.ValueStates.{ValueState}
use Rattle.ext_one_report.proofs.MatchingWords.{HasNumberIn, RunView, cell_of, plain_slot}
use Rattle.ext_one_report.proofs.OfPlan.{value_in}
use Rattle.ext_one_report.proofs.Orders.{AreNew, Fails, OrdersFewer, OrdersFresh, OrdersOne, OrdersSame, OrdersThen, StandWith}

pub orders_fewer : OrdersFewer
orders_fewer run places fewer g h s t among orders = record {
  each = λ context key a b v is stands means fails. orders.each context key a b v (among context key is) stands means fails;
  pairs = λ context key other a b c d v w is also stands more means meant fails failed differ new new' less.
      orders.pairs context key other a b c d v w (among context key is) (among context other also) stands more means meant fails failed differ new new' less;
}

pub orders_then : OrdersThen
orders_then run places g h k s t u lanes_rise plain_rises drew first second = record { each = each; pairs = pairs }
  where
    later : (a b : ℕ) → AreNew h t a b → AreNew g s a b
    later a b new = let l = new.0 in let p = new.1 in (omega (arith, l, lanes_rise), omega (arith, p, plain_rises))

    each : (context : ℕ) (key : KeyValue) (a b : ℕ) (v : ValueText) → places context key ≡ true → StandWith run context key k u a b → run.meaning.values a ≡ Some v → Fails v
        → StandWith run context key g s a b ⊎ AreNew g s a b
    each context key a b v is stands means fails = elim (second.each context key a b v is stands means fails) [
      | inl stood ↦ first.each context key a b v is stood means fails
      | inr new ↦ inr (later a b new)
    ]

    pairs : (context : ℕ) (key other : KeyValue) (a b c d : ℕ) (v w : ValueText) → places context key ≡ true → places context other ≡ true
        → StandWith run context key k u a b → StandWith run context other k u c d → run.meaning.values a ≡ Some v → run.meaning.values c ≡ Some w → Fails v → Fails w → v.text ≢ w.text
        → AreNew g s a b → AreNew g s c d → a < c → b < d
    pairs context key other a b c d v w is also stands more means meant fails failed differ new new' less =
        elim (second.each context key a b v is stands means fails) [
          | inl stood ↦ elim (second.each context other c d w also more meant failed) [
            | inl stood' ↦ first.pairs context key other a b c d v w is also stood stood' means meant fails failed differ new new' less
            | inr late ↦
                let old = (drew.drew context key a b v is stood means).1 in
                let fresh = late.1 in
                omega (arith, old, fresh)
          ]
          | inr late ↦ elim (second.each context other c d w also more meant failed) [
            | inl stood' ↦
                let old = (drew.drew context other c d w also stood' meant).0 in
                let fresh = late.0 in
                absurd (omega (arith, old, fresh, less))
            | inr late' ↦ second.pairs context key other a b c d v w is also stands more means meant fails failed differ late late' less
          ]
        ]

-- what stands with these numbers stood with them where the same stood
pub stood_there : (run : RunView) (g h : History) (s t : ValueState) (context : ℕ) (key : KeyValue) (a b : ℕ)
    → ((number : ℕ) → HasNumberIn run key number → slots_in (cell_of run number) h context ≡ slots_in (cell_of run number) g context) → plain_slot t context key ≡ plain_slot s context key
    → StandWith run context key h t a b → StandWith run context key g s a b
stood_there run g h s t context key a b lanes plain stands = record {
  number = stands.number;
  has = stands.has;
  lanes = ap value_in (sym (lanes stands.number stands.has)) ∙ stands.lanes;
  plain = ap value_in (sym plain) ∙ stands.plain;
}

pub orders_one : OrdersOne
orders_one run places g h s t at here each drew = record {
  each = λ context key a b v is stands means fails. elim (each context key a b v is stands means fails) [
    | inl stood ↦ inl stood
    | inr new ↦ inr new.0
  ];
  pairs = λ context key other a b c d v w is also stands more means meant fails failed differ new new' less.
      elim (each context key a b v is stands means fails) [
        | inl stood ↦
            let old = (drew.drew context key a b v is stood means).0 in
            let fresh = new.0 in
            absurd (omega (arith, old, fresh))
        | inr now ↦ elim (each context other c d w also more meant failed) [
          | inl stood ↦
              let old = (drew.drew context other c d w also stood meant).0 in
              let fresh = new'.0 in
              absurd (omega (arith, old, fresh))
          | inr now' ↦
              let one_key_is : key ≡ other = now.2 ∙ sym now'.2 in
              let number_is : stands.number ≡ more.number =
              one_number run.numbering run.numbering (one_key run.numbering) other stands.number more.number (subst (λ k. HasNumberIn run k stands.number) one_key_is stands.has) more.has in
              let one : Some a ≡ Some c = sym stands.lanes ∙ (ap (λ n. value_in (slots_in (cell_of run n) h context)) number_is ∙ more.lanes) in
              let same : a ≡ c = cc one in
              absurd (omega (arith, same, less))
        ]
      ];
}

pub orders_same : OrdersSame
orders_same run places g h s t drew lanes plain = record {
  each = λ context key a b v is stands means fails.
      inl (stood_there run g h s t context key a b (λ number has. lanes context key number is has) (plain context key is) stands);
  pairs = λ context key other a b c d v w is also stands more means meant fails failed differ new new' less.
      let stood = stood_there run g h s t context key a b (λ number has. lanes context key number is has) (plain context key is) stands in
      let old = (drew.drew context key a b v is stood means).0 in
      let fresh = new.0 in
      absurd (omega (arith, old, fresh));
}

pub orders_fresh : OrdersFresh
orders_fresh run places g h s t context nothing all orders = record { order = order }
  where
    new : (key : KeyValue) (a b : ℕ) (v : ValueText) → StandWith run context key h t a b → run.meaning.values a ≡ Some v → Fails v → AreNew g s a b
    new key a b v stands means fails = elim (orders.each context key a b v (all key) stands means fails) [
      | inl stood ↦ absurd (cc (sym (ap value_in (nothing key)) ∙ stood.plain))
      | inr is ↦ is
    ]

    order : (key other : KeyValue) (a b c d : ℕ) (v w : ValueText) → StandWith run context key h t a b → StandWith run context other h t c d
        → run.meaning.values a ≡ Some v → run.meaning.values c ≡ Some w → Fails v → Fails w → v.text ≢ w.text → a < c → b < d
    order key other a b c d v w stands more means meant fails failed differ less =
        orders.pairs context key other a b c d v w (all key) (all other) stands more means meant fails failed differ (new key a b v stands means fails) (new other c d w more meant failed) less
