-- What is kept of the words of a pass tells as much as the words: where the sums of their versions are equal, so are the words.
use Rattle.std.proofs.Common.{◌≡◌, ◌≢◌, inl, inr, ⊎_elim, ℕ, ◌+◌, ◌*◌, ◌/◌, ◌%◌, ◌^◌, ◌<◌, ◌≤◌, List, [], ◌∷◌, ◌++◌, take, map, get_or, length, slice_index, sym, refl, ap, ◌∙◌, subst, arith, append-nil, drop, length-append, length-take-le, mul-le-mul_right, ◌-◌, Option, None, Some}
use Rattle.std.specs.Prelude.{All, IfNone, IfSome, sum_by}
use Rattle.std.proofs.Math.Seq.{get_or-append_seam, take-append_seam}
use Rattle.std.proofs.lemmas.List.{get_or-map, get_or_append_left, length-map, take-append-le, length-drop, take-append-drop, take-map, take_all}
use Rattle.std.proofs.lemmas.List.Elements.{All-push}
use Rattle.std.proofs.lemmas.List.Sums.{sum_by-cons, sum_by-append}
use mathlib.Core.List.{IsPrefix}
use base.Growing.{prefix_trans}
use Rattle.ext_model.specs.declared.slot.Slot.{Slot}
use Rattle.ext_model.specs.declared.slot.Slot.TheVariants as slot
use Rattle.ext_model.specs.History.{History, Limits, state_after, version_of, own, lane_of, IsLegal}
use Rattle.ext_model.specs.CellWords.{state_code, number_code, slot_word, word, word_of}
use Rattle.ext_history.specs.Histories.{last_after, first_or, seen_by, Follow, moved, call_fronts}
use Rattle.ext_model.specs.CallActs.{LaneView, IsAnswerPoint, Calls}
use Rattle.ext_history.proofs.Fronts.{moved_fronts, moved_seen, moved_again, last_append, follow_last, follow_append, first_append, first_to_last}
use Rattle.ext_history.proofs.Composed.{answer_point, calls_moved, point_legal}
use Rattle.ext_model.proofs.Numbers.{bounded}
use Rattle.ext_model.proofs.Versions.{versions, version-append, same_word}
use Rattle.ext_cells.specs.declared.nearest.EmptyCells.{EmptyCells}
use Rattle.ext_cells.specs.declared.nearest.Nearest.{Nearest}
use Rattle.ext_cells.specs.declared.nearest.Reading.{Reading}
use Rattle.ext_cells.specs.declared.standing.Standing.{Standing}
use Rattle.ext_cells.specs.declared.standing.Standing.TheVariants as standing
use Rattle.ext_cells.specs.WordChanges.{version_in, HasState, IsEmptyWord}
use Rattle.ext_cells.specs.Lanes.{Lane}
use Rattle.ext_cells.specs.CellCalls.{IsNearest, standing_of, StoodNearest, StoodTogether}
use Rattle.ext_cells.specs.InnerSteps.{Finds}
use Rattle.ext_cells.specs.InnerPasses.{EachRead, ReadPass, Says, SaysFirst, IsFirstSaid, IsReading, EndsAt, FirstPass}
use Rattle.ext_cells.proofs.Collecting.{AllBegin, AllGoOn, follow_begin, go_on_from, follow_go_on, first_go_on, read_versions, read_length, version_grows, versions_from, versions_to, equal_passes, unequal_passes, some_cells, first_before, latest_from, next_latest, reads_begin, reads_go_on, pass_none, pass_more, Passes}

-- ---- versions

state_fits : (s : Option Slot) → state_code s < 5
state_fits None = omega arith
state_fits (Some (slot.Entry number)) = omega arith
state_fits (Some (slot.Fault number)) = omega arith
state_fits (Some (slot.Claim lane)) = omega arith
state_fits (Some (slot.Sealed kept)) = omega arith

has_state : (s n v : ℕ) → s < 5 → HasState (word s n v)
has_state s n v small = omega (arith, small)

-- the word of a cell has a state
pub word_has_state : (h : History) (c : ℕ) → HasState (word_of h c)
word_has_state h c = has_state _ _ _ (state_fits ((state_after h).slots c))

-- a number that stands fits its bits
pub number_fits : (limits : Limits) (h : History) (c : ℕ) → limits.numbers < 2 ^ 20 → IsLegal limits h → number_code ((state_after h).slots c) < 2 ^ 20
number_fits limits h c few legal = let n = (bounded h legal).slots c in omega (arith, n, few)

version_read : (s n v : ℕ) → s < 5 → n < 2 ^ 20 → version_in (word s n v) ≡ v
version_read s n v small fits = omega (arith, small, fits)

-- a word of a legal history tells its version
pub version_told : (limits : Limits) (h : History) (c : ℕ) → limits.numbers < 2 ^ 20 → IsLegal limits h → version_in (word_of h c) ≡ version_of h c
version_told limits h c few legal =
    version_read _ _ (version_of h c) (state_fits ((state_after h).slots c)) (number_fits limits h c few legal)

-- so the sum of those in a pass's words is that of its cells' versions
pub sum_told : (limits : Limits) (q : History) (cs ws : List ℕ) (fs : List History) → limits.numbers < 2 ^ 20 → EachRead cs ws fs → AllGoOn limits q fs → sum_by version_in ws ≡ read_versions cs fs
sum_told limits q [] [] [] few a go = refl
sum_told limits q [] [] (f ∷ fs) few a go = absurd a
sum_told limits q [] (w ∷ ws) fs few a go = absurd a
sum_told limits q (c ∷ cs) [] fs few a go = absurd a
sum_told limits q (c ∷ cs) (w ∷ ws) [] few a go = absurd a
sum_told limits q (c ∷ cs) (w ∷ ws) (f ∷ fs) few a go =
    let here : version_in w ≡ version_of f c = ap version_in a.0 ∙ version_told limits f c few go.1 in
    omega (arith, sum_by-cons version_in w ws, here, sum_told limits q cs ws fs few a.1 go.2)

still_word : (c : ℕ) (p h : History) → IsPrefix p h → version_of h c ≡ version_of p c → word_of h c ≡ word_of p c
still_word c p h begins same =
    let v : version_of h c ≡ version_of p c + version_of begins.0 c = ap (λ z. version_of z c) (sym begins.1) ∙ version-append p begins.0 c in
    ap (λ z. word_of z c) (sym begins.1) ∙ same_word p begins.0 c (omega (arith, v, same))

-- two passes with equal sums, of which the first ended at p and the second began there, have equal words
pub same_words : (limits : Limits) (q : History) (cs ws vs : List ℕ) (fs gs : List History) (p : History) → limits.numbers < 2 ^ 20 → EachRead cs ws fs → EachRead cs vs gs → AllGoOn limits q fs → AllBegin fs p → AllGoOn limits p gs
    → sum_by version_in vs ≡ sum_by version_in ws → vs ≡ ws
same_words limits q [] [] [] fs gs p few a b from before after same = refl
same_words limits q [] [] (v ∷ vs) fs gs p few a b from before after same = absurd b
same_words limits q [] (w ∷ ws) vs fs gs p few a b from before after same = absurd a
same_words limits q (c ∷ cs) [] vs fs gs p few a b from before after same = absurd a
same_words limits q (c ∷ cs) (w ∷ ws) [] fs gs p few a b from before after same = absurd b
same_words limits q (c ∷ cs) (w ∷ ws) (v ∷ vs) [] gs p few a b from before after same = absurd a
same_words limits q (c ∷ cs) (w ∷ ws) (v ∷ vs) (f ∷ fs) [] p few a b from before after same = absurd b
same_words limits q (c ∷ cs) (w ∷ ws) (v ∷ vs) (f ∷ fs) (g ∷ gs) p few a b from before after same =
    let begins : IsPrefix f g = prefix_trans f p g before.0 after.0 in
    let w_is : version_in w ≡ version_of f c = ap version_in a.0 ∙ version_told limits f c few from.1 in
    let v_is : version_in v ≡ version_of g c = ap version_in b.0 ∙ version_told limits g c few after.1 in
    let grows = version_grows c f g begins in
    let low = versions_to cs ws fs p a.1 before.1 in
    let high = versions_from limits cs vs gs p b.1 after.2 in
    let low_is = sum_told limits q cs ws fs few a.1 from.2 in
    let high_is = sum_told limits p cs vs gs few b.1 after.2 in
    let all_w = sum_by-cons version_in w ws in
    let all_v = sum_by-cons version_in v vs in
    let still : version_of g c ≡ version_of f c = omega (arith, w_is, v_is, grows, low, high, low_is, high_is, all_w, all_v, same) in
    let rest : sum_by version_in vs ≡ sum_by version_in ws = omega (arith, w_is, v_is, still, all_w, all_v, same) in
    let here : v ≡ w = b.0 ∙ (still_word c f g begins still ∙ sym a.0) in
    let others = same_words limits q cs ws vs fs gs p few a.1 b.1 from.2 before.1 after.2 rest in
    λ i. here i ∷ others i

-- ---- two passes, one behind the other, are one

read_append : (cs ds ws vs : List ℕ) (fs gs : List History) → EachRead cs ws fs → EachRead ds vs gs → EachRead (cs ++ ds) (ws ++ vs) (fs ++ gs)
read_append [] ds [] vs [] gs a b = b
read_append [] ds [] vs (f ∷ fs) gs a b = absurd a
read_append [] ds (w ∷ ws) vs fs gs a b = absurd a
read_append (c ∷ cs) ds [] vs fs gs a b = absurd a
read_append (c ∷ cs) ds (w ∷ ws) vs [] gs a b = absurd a
read_append (c ∷ cs) ds (w ∷ ws) vs (f ∷ fs) gs a b = (a.0, read_append cs ds ws vs fs gs a.1 b)

versions_append : (cs ds ws : List ℕ) (fs gs : List History) → EachRead cs ws fs → read_versions (cs ++ ds) (fs ++ gs) ≡ read_versions cs fs + read_versions ds gs
versions_append [] ds [] [] gs a = omega arith
versions_append [] ds [] (f ∷ fs) gs a = absurd a
versions_append [] ds (w ∷ ws) fs gs a = absurd a
versions_append (c ∷ cs) ds [] fs gs a = absurd a
versions_append (c ∷ cs) ds (w ∷ ws) [] gs a = absurd a
versions_append (c ∷ cs) ds (w ∷ ws) (f ∷ fs) gs a = let r = versions_append cs ds ws fs gs a.1 in omega (arith, r)

module _ (limits : Limits) (before mid after : LaneView) (cs ds ws vs : List ℕ) (one : ReadPass limits before mid cs ws) (two : ReadPass limits mid after ds vs) where
  seen_mid : seen_by mid ≡ last_after (seen_by before) one.fronts
  seen_mid = ap seen_by one.is ∙ moved_seen before one.fronts

  number_mid : mid.number ≡ before.number
  number_mid = ap (λ (l : LaneView). l.number) one.is

  last_all : last_after (seen_by before) (one.fronts ++ two.fronts) ≡ last_after (seen_by mid) two.fronts
  last_all = last_append (seen_by before) one.fronts two.fronts ∙ ap (λ z. last_after z two.fronts) (sym seen_mid)

  own_two : own before.number (last_after (seen_by mid) two.fronts) ≡ own before.number (seen_by mid)
  own_two = subst (λ n. own n (last_after (seen_by mid) two.fronts) ≡ own n (seen_by mid)) number_mid two.own_same

  pub pass_then : ReadPass limits before after (cs ++ ds) (ws ++ vs)
  pass_then = record {
    fronts = one.fronts ++ two.fronts;
    is = two.is ∙ (ap (λ l. moved l two.fronts) one.is ∙ moved_again before one.fronts two.fronts);
    follow = follow_append (seen_by before) one.fronts two.fronts one.follow (subst (λ z. Follow z two.fronts) seen_mid two.follow);
    legal = subst (IsLegal limits) (sym last_all) two.legal;
    own_same = ap (own before.number) last_all ∙ (own_two ∙ (ap (own before.number) seen_mid ∙ one.own_same));
    read = read_append cs ds ws vs one.fronts two.fronts one.read two.read;
  }

-- a pass is a call without an event
pub pass_calls : (limits : Limits) (before after : LaneView) (cs ws : List ℕ) → ReadPass limits before after cs ws → Calls limits before after []
pass_calls limits before after cs ws t = subst (λ z. Calls limits before z []) (sym t.is) (calls_moved lane_of before t.fronts [] t.follow (t.own_same ∙ sym (append-nil (own before.number (seen_by before)))))

begin_to : (fs : List History) (p q : History) → IsPrefix p q → AllBegin fs p → AllBegin fs q
begin_to [] p q more all = tt
begin_to (f ∷ fs) p q more all = (prefix_trans f p q all.0 more, begin_to fs p q more all.1)

-- ---- a pass over some cells and the read of what stood behind them, and then a pass over those cells once more
module _ (limits : Limits) (before between mid next : LaneView) (cs ds ws us vs : List ℕ) (few : limits.numbers < 2 ^ 20)
    (one : ReadPass limits before between cs ws) (two : ReadPass limits between mid ds us) (three : ReadPass limits mid next cs vs) where
  first : ReadPass limits before mid (cs ++ ds) (ws ++ us)
  first = pass_then limits before between mid cs ds ws us one two

  -- the front after the last read of the first pass
  abbrev pub middle : History
  middle = last_after (seen_by before) (one.fronts ++ two.fronts)

  seen_middle : seen_by mid ≡ last_after (seen_by before) (one.fronts ++ two.fronts)
  unfolding first pass_then
  seen_middle = ap seen_by first.is ∙ moved_seen before (one.fronts ++ two.fronts)

  to_middle : IsPrefix (last_after (seen_by before) one.fronts) (last_after (seen_by before) (one.fronts ++ two.fronts))
  to_middle =
      subst (IsPrefix (last_after (seen_by before) one.fronts)) (sym (last_append (seen_by before) one.fronts two.fronts))
      (follow_last (last_after (seen_by before) one.fronts) two.fronts (subst (λ z. Follow z two.fronts) (ap seen_by one.is ∙ moved_seen before one.fronts) two.follow))

  begin_one : AllBegin one.fronts (last_after (seen_by before) (one.fronts ++ two.fronts))
  begin_one = begin_to one.fronts _ _ to_middle (follow_begin (seen_by before) one.fronts one.follow)

  go_one : AllGoOn limits (seen_by before) one.fronts
  go_one = follow_go_on limits (seen_by before) one.fronts one.follow one.legal

  go_three : AllGoOn limits (last_after (seen_by before) (one.fronts ++ two.fronts)) three.fronts
  go_three = subst (λ z. AllGoOn limits z three.fronts) seen_middle (follow_go_on limits (seen_by mid) three.fronts three.follow three.legal)

  whole : ReadPass limits before next ((cs ++ ds) ++ cs) ((ws ++ us) ++ vs)
  whole = pass_then limits before mid next (cs ++ ds) cs (ws ++ us) vs first three

  -- with equal sums the cells stood together as the last one was read
  pub still_stood : sum_by version_in vs ≡ sum_by version_in ws → ws ≡ map (word_of (last_after (seen_by before) (one.fronts ++ two.fronts))) cs
  still_stood same =
      let e : vs ≡ ws = same_words limits (seen_by before) cs ws vs one.fronts three.fronts middle few one.read three.read go_one begin_one go_three same in
      equal_passes limits cs ws one.fronts three.fronts middle few one.read (subst (λ z. EachRead cs z three.fronts) e three.read) begin_one go_three

  pub still_calls : Calls limits before next []
  still_calls = pass_calls limits before next _ _ whole

  fronts_are : call_fronts before next ≡ (one.fronts ++ two.fronts) ++ three.fronts
  unfolding whole pass_then first
  fronts_are = ap (call_fronts before) whole.is ∙ moved_fronts before ((one.fronts ++ two.fronts) ++ three.fronts)

  pub still_point : IsAnswerPoint before next [] (last_after (seen_by before) (one.fronts ++ two.fronts))
  unfolding first pass_then whole
  still_point =
      let a = length-append one.fronts two.fronts in let n = (read_length cs ws one.fronts one.read).0 in let m = (read_length cs vs three.fronts three.read).0 in (
        subst (λ fs. IsPrefix (first_or (seen_by before) fs) middle) (sym fronts_are) (first_before (seen_by before) (one.fronts ++ two.fronts) three.fronts first.follow (λ none. omega (arith, a, n, m, none))),
        subst (IsPrefix middle) (sym (ap seen_by whole.is ∙ (moved_seen before ((one.fronts ++ two.fronts) ++ three.fronts) ∙ last_append (seen_by before) (one.fronts ++ two.fronts) three.fronts)))
            (follow_last middle three.fronts (subst (λ z. Follow z three.fronts) seen_middle three.follow)),
      )

  pub still_steps : length (call_fronts before next) ≡ length cs + length ds + length cs
  still_steps =
      let a = length-append one.fronts two.fronts in let b = length-append (one.fronts ++ two.fronts) three.fronts in
      let n = (read_length cs ws one.fronts one.read).0 in let k = (read_length ds us two.fronts two.read).0 in let m = (read_length cs vs three.fronts three.read).0 in
      ap length fronts_are ∙ omega (arith, a, b, n, k, m)

  -- with other sums there was an event, and a pass over all cells has begun
  module _ (last : LaneView) (es zs : List ℕ) (four : ReadPass limits next last es zs) (differs : sum_by version_in vs ≢ sum_by version_in ws) (short : length ds ≤ length es) where
    all_cells : ReadPass limits mid last (cs ++ es) (vs ++ zs)
    all_cells = pass_then limits mid next last cs es vs zs three four

    abbrev start : History
    start = first_or (seen_by before) one.fronts

    go_four : AllGoOn limits (first_or (seen_by before) one.fronts) four.fronts
    go_four =
        let to : IsPrefix (first_or (seen_by before) one.fronts) (last_after (seen_by before) (one.fronts ++ two.fronts)) = prefix_trans _ _ _ (first_to_last (seen_by before) one.fronts one.follow) to_middle in
        let on : IsPrefix (last_after (seen_by before) (one.fronts ++ two.fronts)) (seen_by next) = still_point.1 in
        go_on_from limits _ _ four.fronts (prefix_trans _ _ _ to on) (follow_go_on limits (seen_by next) four.fronts four.follow four.legal)

    other_words : vs ≢ ws
    other_words e = differs (ap (sum_by version_in) e)

    pub begun : Passes limits before last (cs ++ es) (vs ++ zs) 1
    unfolding first pass_then all_cells
    begun =
        let more : read_versions cs one.fronts + 1 ≤ read_versions cs three.fronts = unequal_passes limits cs ws vs one.fronts three.fronts middle one.read three.read begin_one go_three other_words in
        let low : versions start cs ≤ read_versions cs one.fronts = versions_from limits cs ws one.fronts start one.read (first_go_on limits (seen_by before) one.fronts one.follow one.legal) in
        let rest : versions start es ≤ read_versions es four.fronts = versions_from limits es zs four.fronts start four.read go_four in
        let some : 1 ≤ length one.fronts = some_cells cs ws vs one.fronts three.fronts one.read three.read other_words in
        let cells : versions start (cs ++ es) ≡ versions start cs + versions start es = sum_by-append (version_of start) cs es in
        let fronts : read_versions (cs ++ es) (three.fronts ++ four.fronts) ≡ read_versions cs three.fronts + read_versions es four.fronts = versions_append cs es vs three.fronts four.fronts three.read in
        let a = length-append one.fronts two.fronts in
        let some_first : 1 ≤ length (one.fronts ++ two.fronts) = omega (arith, a, some) in
        let first_is : first_or (seen_by before) ((one.fronts ++ two.fronts) ++ (three.fronts ++ four.fronts)) ≡ first_or (seen_by before) one.fronts =
        first_append (seen_by before) (one.fronts ++ two.fronts) (three.fronts ++ four.fronts) some_first ∙ first_append (seen_by before) one.fronts two.fronts some in
        let counted : versions (first_or (seen_by before) ((one.fronts ++ two.fronts) ++ (three.fronts ++ four.fronts))) (cs ++ es) ≡ versions (first_or (seen_by before) one.fronts) (cs ++ es) = ap (λ z. versions z (cs ++ es)) first_is in
        let n = (read_length cs ws one.fronts one.read).0 in let k = (read_length ds us two.fronts two.read).0 in let m = length-append cs es in
        record {
          earlier = one.fronts ++ two.fronts;
          fronts = three.fronts ++ four.fronts;
          follow = first.follow;
          own_same = first.own_same;
          latest = latest_from limits before mid last (one.fronts ++ two.fronts) (cs ++ es) (vs ++ zs) first.is all_cells;
          counted = omega (arith, more, low, rest, cells, fronts, counted);
          steps = omega (arith, a, n, k, m, short);
        }

-- ---- one word more

-- the first word that says that anything stands stays it,
pub still_said : (words : List ℕ) (word : ℕ) (nearest : Nearest) → SaysFirst words nearest → SaysFirst (words ++ word ∷ []) nearest
still_said words word nearest said =
    let inside = said.within in
    let long = length-append words (word ∷ []) in
    record {
      within = omega (arith, inside, long);
      before = subst (All IsEmptyWord) (sym (take-append-le nearest.index words (word ∷ []) (omega (arith, inside)))) said.before;
      says = subst (λ w. Says w (Some nearest.standing)) (sym (get_or_append_left words (word ∷ []) 0 nearest.index inside)) said.says;
    }

-- and where none said so before, the next one may
pub now_said : (words : List ℕ) (word : ℕ) (nearest : Option Nearest) → All IsEmptyWord words → IfNone nearest (IsEmptyWord word)
    → IfSome nearest (λ n. (n.index ≡ length words) × Says word (Some n.standing)) → IsFirstSaid (words ++ word ∷ []) nearest
now_said words word None none empty said = All-push IsEmptyWord words word none empty
now_said words word (Some n) none empty said =
    let at = said.0 in
    let long = length-append words (word ∷ []) in
    record {
      within = omega (arith, at, long);
      before = subst (All IsEmptyWord) (sym (ap (λ i. take i (words ++ word ∷ [])) at ∙ take-append_seam words (word ∷ []))) none;
      says = subst (λ w. Says w (Some n.standing)) (sym (ap (λ i. get_or (words ++ word ∷ []) i 0) at ∙ get_or-append_seam words word [] 0)) said.1;
    }

pub one_more : (words : List ℕ) (word : ℕ) (reading : Reading) (count versions : ℕ) (nearest : Option Nearest) → IsReading words reading → count ≡ reading.count + 1 → versions ≡ reading.versions + version_in word
    → IsFirstSaid (words ++ word ∷ []) nearest → IsReading (words ++ word ∷ []) (record { count = count; versions = versions; nearest = nearest })
one_more words word reading count versions nearest said counted added first =
    let long = length-append words (word ∷ []) in
    let before = said.count in
    let sum = sum_by-append version_in words (word ∷ []) in
    let last = sum_by-cons version_in word [] in
    let was = said.versions in
    record {
      count = omega (arith, long, before, counted);
      versions = omega (arith, sum, last, was, added);
      nearest = first;
    }

-- ---- what words say of their cells

empty_slot : (s : Option Slot) (version : ℕ) → word (state_code s) (number_code s) version % 16 ≡ 0 → s ≡ None
empty_slot None version e = refl
empty_slot (Some (slot.Entry number)) version e = absurd (omega (arith, e))
empty_slot (Some (slot.Fault number)) version e = absurd (omega (arith, e))
empty_slot (Some (slot.Claim lane)) version e = absurd (omega (arith, e))
empty_slot (Some (slot.Sealed kept)) version e = absurd (omega (arith, e))

-- a word in the state of a value tells its number
pub value_told : (s : Option Slot) (word number version : ℕ) → number_code s < 2 ^ 20 → word ≡ slot_word s version → word % 16 ≡ 2 → number ≡ word / 16 % 2 ^ 20 → standing_of s ≡ Some (standing.Value number)
value_told None word number version fits is value told = absurd (omega (arith, is, value))
value_told (Some (slot.Entry n)) word number version fits is value told = let same : n ≡ number = omega (arith, fits, is, told) in ap (λ k. Some (standing.Value k)) same
value_told (Some (slot.Fault n)) word number version fits is value told = absurd (omega (arith, is, value))
value_told (Some (slot.Claim lane)) word number version fits is value told = absurd (omega (arith, is, value))
value_told (Some (slot.Sealed kept)) word number version fits is value told = absurd (omega (arith, is, value))

-- an empty word tells that nothing stands
pub nothing_told : (s : Option Slot) (word version : ℕ) → word ≡ slot_word s version → word % 16 ≡ 0 → standing_of s ≡ None
nothing_told None word version is empty = refl
nothing_told (Some (slot.Entry n)) word version is empty = absurd (omega (arith, is, empty))
nothing_told (Some (slot.Fault n)) word version is empty = absurd (omega (arith, is, empty))
nothing_told (Some (slot.Claim lane)) word version is empty = absurd (omega (arith, is, empty))
nothing_told (Some (slot.Sealed kept)) word version is empty = absurd (omega (arith, is, empty))

-- nothing stands in cells with empty words
pub nothing_in : (p : History) (cs ws : List ℕ) → ws ≡ map (word_of p) cs → All IsEmptyWord ws → All (λ c. (state_after p).slots c ≡ None) cs
nothing_in p cs ws is none =
    (λ i d within.
    let long : length ws ≡ length cs = ap length is ∙ length-map cs (word_of p) in
    let word_is : get_or ws i 0 ≡ word_of p (get_or cs i d) = ap (λ z. get_or z i 0) is ∙ get_or-map (word_of p) cs i d 0 within in
    empty_slot _ _ (ap (λ w. w % 16) (sym word_is) ∙ none i 0 (omega (arith, long, within))))

-- the first word that says that anything stands is that of the nearest cell
pub first_said : (p : History) (cells words : List ℕ) (nearest : Option Nearest) → ((c : ℕ) → number_code ((state_after p).slots c) < 2 ^ 20) → words ≡ map (word_of p) cells → IsFirstSaid words nearest → IsNearest p cells nearest
first_said p cells words None fits is said = nothing_in p cells words is said
first_said p cells words (Some n) fits is said =
    let long : length words ≡ length cells = ap length is ∙ length-map cells (word_of p) in
    let inside = said.within in
    let within : n.index < length cells = omega (arith, long, inside) in
    let here : ℕ = slice_index cells n.index in
    let word_is : slice_index words n.index ≡ word_of p (slice_index cells n.index) = ap (λ z. get_or z n.index 0) is ∙ get_or-map (word_of p) cells n.index 0 0 within in
    record {
      within = within;
      nothing_before = nothing_in p (take n.index cells) (take n.index words) (ap (take n.index) is ∙ take-map (word_of p) n.index cells) said.before;
      stands = said.says ((state_after p).slots here) (version_of p here) (fits here) word_is;
    }

-- ---- the first pass and the one over its empty cells

-- what the lane has seen after a pass is legal
pub legal_between : (limits : Limits) (before between : LaneView) (cs ws : List ℕ) → ReadPass limits before between cs ws → IsLegal limits (seen_by between)
legal_between limits before between cs ws t = subst (IsLegal limits) (sym (ap seen_by t.is ∙ moved_seen before t.fronts)) t.legal

-- what stood behind the empty cells, as a pass of its own
end_pass : (limits : Limits) (between mid : LaneView) (cells : List ℕ) (empty : EmptyCells) → IsLegal limits (seen_by between) → All (λ c. c < limits.cells) cells → EndsAt limits between mid cells empty
    → (ds us : List ℕ) × ReadPass limits between mid ds us × (empty.count + length ds ≤ length cells) × (length cells ≡ 0 → length ds ≡ 0)
end_pass limits between mid cells empty legal known (inl all) =
    let full = all.1 in ([], [], subst (λ l. ReadPass limits between l [] []) (sym all.0) (pass_none limits between legal), omega (arith, full), λ none. refl)
end_pass limits between mid cells empty legal known (inr one) =
    let less = one.0 in (
      slice_index cells empty.count ∷ [],
      empty.behind ∷ [],
      pass_more limits between between mid [] [] (slice_index cells empty.count) empty.behind one.2.0 (pass_none limits between legal) (known empty.count 0 less) one.2.1 one.2.2,
      omega (arith, less),
      λ none. absurd (omega (arith, less, none)),
    )

read_one : (q : History) (c w : ℕ) (fs : List History) → EachRead (c ∷ []) (w ∷ []) fs → w ≡ word_of (last_after q fs) c
read_one q c w [] a = absurd a
read_one q c w (f ∷ []) a = a.0
read_one q c w (f ∷ g ∷ gs) a = absurd a.1

-- the word of a fresh cell says that nothing stands
nothing_said : (s : Standing) → Says 0 (Some s) → ⊥
nothing_said s said = let told : standing_of None ≡ Some s = said None 0 (omega arith) refl in cc told

-- a lane that read up to the first cell where anything stands, and then the cells before it once more
module _ (x y : Lane) (mid : LaneView) (cells : List ℕ) (empty : EmptyCells) (again : ℕ) (few : x.cells.limits.numbers < 2 ^ 20) (known : All (λ c. c < x.cells.limits.cells) cells)
    (t : FirstPass x.cells.limits x.view mid cells empty) (more : List ℕ) (three : ReadPass x.cells.limits mid y.view (take empty.count cells) more) (added : again ≡ sum_by version_in more) where
  sums_are : again ≡ empty.versions → sum_by version_in more ≡ sum_by version_in t.words
  sums_are e = sym added ∙ (e ∙ t.versions)

  -- nothing stood in any,
  still_none : again ≡ empty.versions → mid ≡ t.between → empty.count ≡ length cells → StoodNearest x y cells None × (length (call_fronts x.view y.view) ≤ length cells + length cells)
  still_none e same full =
      let limits = x.cells.limits in let cs : List ℕ = take empty.count cells in
      let two = pass_none x.cells.limits t.between (legal_between x.cells.limits x.view t.between cs t.words t.read) in
      let on : ReadPass x.cells.limits t.between y.view (take empty.count cells) more = subst (λ l. ReadPass x.cells.limits l y.view (take empty.count cells) more) same three in
      let all : take empty.count cells ≡ cells = take_all empty.count cells (omega (arith, full)) in
      let long : length (take empty.count cells) ≡ length cells = ap length all in
      let words_are = still_stood x.cells.limits x.view t.between t.between y.view cs [] t.words [] more few t.read two on (sums_are e) in
      let point = still_point x.cells.limits x.view t.between t.between y.view cs [] t.words [] more few t.read two on in
      let steps = still_steps x.cells.limits x.view t.between t.between y.view cs [] t.words [] more few t.read two on in
      let p : History = last_after (seen_by x.view) (t.read.fronts ++ two.fronts) in (
        record {
          calls = still_calls x.cells.limits x.view t.between t.between y.view cs [] t.words [] more few t.read two on;
          stepped = λ some. omega (arith, steps, long, some);
          point = (p, point, subst (All (λ z. (state_after p).slots z ≡ None)) all (nothing_in p cs t.words words_are t.nothing));
        },
        omega (arith, steps, long),
      )

  -- or this was the nearest where anything did
  still_some : (s : Standing) → again ≡ empty.versions → empty.count < length cells → Says empty.behind (Some s)
      → (h : History) → Finds x.cells.limits t.between (slice_index cells empty.count) empty.behind h → mid ≡ moved t.between (h ∷ [])
      → StoodNearest x y cells (Some (record { index = empty.count; standing = s })) × (length (call_fronts x.view y.view) ≤ length cells + length cells)
  still_some s e less said h finds is =
      let limits = x.cells.limits in let cs : List ℕ = take empty.count cells in
      let w : ℕ = empty.behind in
      let c : ℕ = slice_index cells empty.count in
      let legal = legal_between x.cells.limits x.view t.between cs t.words t.read in
      let two : ReadPass x.cells.limits t.between mid (slice_index cells empty.count ∷ []) (empty.behind ∷ []) = pass_more x.cells.limits t.between t.between mid [] [] c w h (pass_none x.cells.limits t.between legal) (known empty.count 0 less) finds is in
      let long : length (take empty.count cells) ≡ empty.count = length-take-le empty.count cells (omega (arith, less)) in
      let words_are = still_stood x.cells.limits x.view t.between mid y.view cs (c ∷ []) t.words (w ∷ []) more few t.read two three (sums_are e) in
      let point = still_point x.cells.limits x.view t.between mid y.view cs (c ∷ []) t.words (w ∷ []) more few t.read two three in
      let steps = still_steps x.cells.limits x.view t.between mid y.view cs (c ∷ []) t.words (w ∷ []) more few t.read two three in
      let p : History = last_after (seen_by x.view) (t.read.fronts ++ two.fronts) in
      let calls = still_calls x.cells.limits x.view t.between mid y.view cs (c ∷ []) t.words (w ∷ []) more few t.read two three in
      let lawful : IsLegal limits p = point_legal (legal_between limits mid y.view cs more three) p (answer_point calls p point) in
      let word_is : empty.behind ≡ word_of (last_after (seen_by x.view) (t.read.fronts ++ two.fronts)) (slice_index cells empty.count) =
      read_one (last_after (seen_by x.view) t.read.fronts) c w two.fronts two.read ∙ ap (λ z. word_of z c) (sym (last_append (seen_by x.view) t.read.fronts two.fronts)) in (
        record {
          calls = calls;
          stepped = λ some. omega (arith, steps);
          point = (
            p,
            point,
            record {
              within = less;
              nothing_before = nothing_in p cs t.words words_are t.nothing;
              stands = said ((state_after p).slots c) (version_of p c) (number_fits limits p c few lawful) word_is;
            },
          );
        },
        omega (arith, steps, long, less),
      )

  -- as the word behind the empty cells says
  pub still_nearest : again ≡ empty.versions → (nearest : Option Nearest) → IfNone nearest (IsEmptyWord empty.behind) → IfSome nearest (λ n. (n.index ≡ empty.count) × Says empty.behind (Some n.standing))
      → StoodNearest x y cells nearest × (length (call_fronts x.view y.view) ≤ length cells + length cells)
  still_nearest e None none some = ⊎_elim (λ all. still_none e all.0 all.1) (λ one. absurd (one.1 none)) t.ends
  still_nearest e (Some n) none some = ⊎_elim
      (λ all. absurd (nothing_said n.standing (subst (λ w. Says w (Some n.standing)) all.2 some.1)))
      (λ one. subst (λ (index : ℕ). StoodNearest x y cells (Some (record { index = index; standing = n.standing })) × (length (call_fronts x.view y.view) ≤ length cells + length cells)) (sym some.0)
      (still_some n.standing e one.0 some.1 one.2.0 one.2.1 one.2.2)) t.ends

  -- else a pass over all cells has begun, and goes on behind them
  pub begun_here : (last : LaneView) (zs : List ℕ) → again ≢ empty.versions → ReadPass x.cells.limits y.view last (drop empty.count cells) zs → Passes x.cells.limits x.view last cells (more ++ zs) 1
  begun_here last zs differs four =
      let cs : List ℕ = take empty.count cells in
      let end = end_pass x.cells.limits t.between mid cells empty (legal_between x.cells.limits x.view t.between cs t.words t.read) known t.ends in
      let short = end.3 in
      let long : length (drop empty.count cells) ≡ length cells - empty.count = length-drop empty.count cells in
      subst (λ z. Passes x.cells.limits x.view last z (more ++ zs) 1) (take-append-drop empty.count cells)
      (begun x.cells.limits x.view t.between mid y.view cs end.0 t.words end.1 more few t.read end.2 three last (drop empty.count cells) zs four
      (λ e. differs (added ∙ (e ∙ sym t.versions))) (omega (arith, short, long)))

-- ---- pass after pass

module _ (limits : Limits) (before now next : LaneView) (cells words again : List ℕ) (count : ℕ) (t : Passes limits before now cells words count) (pass : ReadPass limits now next cells again) (few : limits.numbers < 2 ^ 20) where
  pub same_again : sum_by version_in again ≡ sum_by version_in words → again ≡ words
  same_again same =
      let on = next_latest limits before now next cells words again count t pass in
      let q : History = last_after (seen_by before) t.earlier in
      let from : AllGoOn limits (last_after (seen_by before) t.earlier) t.fronts = follow_go_on limits q t.fronts t.latest.follow (subst (IsLegal limits) (last_append (seen_by before) t.earlier t.fronts) t.latest.legal) in
      same_words limits q cells words again t.fronts pass.fronts (last_after (seen_by before) (t.earlier ++ t.fronts)) few t.latest.read on.read from
      (reads_begin limits before now next cells words again count t pass) (reads_go_on limits before now next cells words again count t pass) same

-- the nearest of cells that stood together
pub nearest_of : (x y : Lane) (cells words : List ℕ) (reading : Reading) → x.cells.limits.numbers < 2 ^ 20 → IsLegal x.cells.limits (seen_by y.view) → StoodTogether x y cells words → IsReading words reading → StoodNearest x y cells reading.nearest
nearest_of x y cells words reading few seen_legal stood said =
    let p : History = stood.point.0 in
    let legal : IsLegal x.cells.limits p = point_legal seen_legal p (answer_point stood.calls p stood.point.1) in
    record {
      calls = stood.calls;
      stepped = stood.stepped;
      point = (p, stood.point.1, first_said p cells words reading.nearest (λ c. number_fits x.cells.limits p c few legal) stood.point.2 said.nearest);
    }

-- two passes are within what is told, which has as many as there are tries and one more
pub within_two : (n tries steps : ℕ) → 1 ≤ tries → steps ≤ n + n → steps ≤ n * (tries + 1)
within_two n tries steps some less = let m = mul-le-mul_right n some in omega (arith, m, less)
