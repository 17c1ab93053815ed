-- Passes over some cells: two equal ones are of one point, and each unequal one has an event of another lane behind it.
use Rattle.std.proofs.Common.{◌≡◌, ◌≢◌, ℕ, suc, ◌+◌, ◌-◌, ◌*◌, ◌^◌, ◌<◌, ◌≤◌, List, [], ◌∷◌, ◌++◌, take, map, get_or, length, add-one, take-suc, mul-le-mul_right, sym, refl, ap, ◌∙◌, subst, arith, append_assoc, append-nil, length-append, nat_eq}
use Rattle.std.specs.Prelude.{All}
use Rattle.std.specs.List.{IsDistinct}
use Rattle.std.proofs.lemmas.List.Sums.{sum_by-cons}
use mathlib.Core.List.{IsPrefix}
use mathlib.Core.Logic.{dite}
use native.Mathlib.Decide.{ℕ_discrete}
use base.Growing.{prefix_refl, prefix_trans}
use Rattle.ext_model.specs.History.{History, Limits, version_of, lane_of, own, IsLegal}
use Rattle.ext_model.specs.CellWords.{word_of}
use Rattle.ext_history.specs.Histories.{last_after, first_or, seen_by, Follow, moved, call_fronts, first_front, IsStepped}
use Rattle.ext_model.specs.CallActs.{LaneView, IsAnswerPoint, Calls, IsOvertaken}
use Rattle.ext_history.proofs.Legal.{legal_begun}
use Rattle.ext_history.proofs.Fronts.{moved_fronts, moved_seen, moved_none, moved_again, last_append, follow_last, follow_append, first_follows, first_to_last, first_append}
use Rattle.ext_history.proofs.Lanes.{own_append, own_past}
use Rattle.ext_history.proofs.Composed.{calls_moved}
use Rattle.ext_model.proofs.Versions.{versions, version-append, versions-append, versions_within, same_word, same_word_between}
use Rattle.ext_cells.specs.Lanes.{Lane}
use Rattle.ext_cells.specs.CellCalls.{IsOvertakenOn, StoodTogether, before_last_pass}
use Rattle.ext_cells.specs.InnerSteps.{Finds}
use Rattle.ext_cells.specs.InnerPasses.{EachRead, ReadPass}

-- ---- the words that one pass reads

read_push : (cs ws : List ℕ) (fs : List History) (c w : ℕ) (f : History) → EachRead cs ws fs → w ≡ word_of f c → EachRead (cs ++ c ∷ []) (ws ++ w ∷ []) (fs ++ f ∷ [])
read_push [] [] [] c w f all is = (is, tt)
read_push [] [] (g ∷ gs) c w f all is = absurd all
read_push [] (v ∷ vs) fs c w f all is = absurd all
read_push (d ∷ ds) [] fs c w f all is = absurd all
read_push (d ∷ ds) (v ∷ vs) [] c w f all is = absurd all
read_push (d ∷ ds) (v ∷ vs) (g ∷ gs) c w f all is = (all.0, read_push ds vs gs c w f all.1 is)

pub read_length : (cs ws : List ℕ) (fs : List History) → EachRead cs ws fs → (length fs ≡ length cs) × (length ws ≡ length cs)
read_length [] [] [] all = (refl, refl)
read_length [] [] (f ∷ fs) all = absurd all
read_length [] (w ∷ ws) fs all = absurd all
read_length (c ∷ cs) [] fs all = absurd all
read_length (c ∷ cs) (w ∷ ws) [] all = absurd all
read_length (c ∷ cs) (w ∷ ws) (f ∷ fs) all = let r = read_length cs ws fs all.1 in (ap suc r.0, ap suc r.1)

-- all of them are prefixes of h
abbrev pub AllBegin : List History → History → Type 0
AllBegin [] h = Unit {0}
AllBegin (f ∷ fs) h = IsPrefix f h × AllBegin fs h

-- each goes on from p, and is legal
abbrev pub AllGoOn : Limits → History → List History → Type 0
AllGoOn limits p [] = Unit {0}
AllGoOn limits p (f ∷ fs) = IsPrefix p f × IsLegal limits f × AllGoOn limits p fs

pub follow_begin : (h : History) (fs : List History) → Follow h fs → AllBegin fs (last_after h fs)
follow_begin h [] all = tt
follow_begin h (f ∷ fs) all = (follow_last f fs all.1, follow_begin f fs all.1)

pub go_on_from : (limits : Limits) (q p : History) (fs : List History) → IsPrefix q p → AllGoOn limits p fs → AllGoOn limits q fs
go_on_from limits q p [] less all = tt
go_on_from limits q p (f ∷ fs) less all = (prefix_trans q p f less all.0, all.1, go_on_from limits q p fs less all.2)

pub follow_go_on : (limits : Limits) (h : History) (fs : List History) → Follow h fs → IsLegal limits (last_after h fs) → AllGoOn limits h fs
follow_go_on limits h [] all legal = tt
follow_go_on limits h (f ∷ fs) all legal = (
  all.0,
  legal_begun f (last_after f fs) (follow_last f fs all.1) legal,
  go_on_from limits h f fs all.0 (follow_go_on limits f fs all.1 legal),
)

-- the first front begins each of them
pub first_go_on : (limits : Limits) (h : History) (fs : List History) → Follow h fs → IsLegal limits (last_after h fs) → AllGoOn limits (first_or h fs) fs
first_go_on limits h [] all legal = tt
first_go_on limits h (f ∷ fs) all legal = (prefix_refl f, legal_begun f (last_after f fs) (follow_last f fs all.1) legal, follow_go_on limits f fs all.1 legal)

-- ---- two equal passes

-- a word that is the same at two histories is the same at each between them
word_between : (limits : Limits) (cell : ℕ) (f p g : History) → limits.numbers < 2 ^ 20 → IsPrefix f p → IsPrefix p g → IsLegal limits g → word_of g cell ≡ word_of f cell → word_of p cell ≡ word_of f cell
word_between limits cell f p g few fp pg legal same =
    let whole : f ++ fp.0 ++ pg.0 ≡ g = ap (λ z. z ++ pg.0) fp.1 ∙ pg.1 in
    ap (λ z. word_of z cell) (sym fp.1) ∙ same_word_between f fp.0 pg.0 cell few (subst (IsLegal limits) (sym whole) legal) (ap (λ z. word_of z cell) whole ∙ same)

-- of two equal passes the first ended at p and the second began there: the words are those of p
pub equal_passes : (limits : Limits) (cs ws : List ℕ) (fs gs : List History) (p : History) → limits.numbers < 2 ^ 20 → EachRead cs ws fs → EachRead cs ws gs → AllBegin fs p → AllGoOn limits p gs → ws ≡ map (word_of p) cs
equal_passes limits [] [] [] gs p few a b before after = refl
equal_passes limits [] [] (f ∷ fs) gs p few a b before after = absurd a
equal_passes limits [] (w ∷ ws) fs gs p few a b before after = absurd a
equal_passes limits (c ∷ cs) [] fs gs p few a b before after = absurd a
equal_passes limits (c ∷ cs) (w ∷ ws) [] gs p few a b before after = absurd a
equal_passes limits (c ∷ cs) (w ∷ ws) (f ∷ fs) [] p few a b before after = absurd b
equal_passes limits (c ∷ cs) (w ∷ ws) (f ∷ fs) (g ∷ gs) p few a b before after =
    let here : word_of p c ≡ word_of f c = word_between limits c f p g few before.0 after.0 after.1 (sym b.0 ∙ a.0) in
    let rest = equal_passes limits cs ws fs gs p few a.1 b.1 before.1 after.2 in
    λ i. (a.0 ∙ sym here) i ∷ rest i

-- ---- unequal passes

-- the versions of the cells, each at its own front
abbrev pub read_versions : List ℕ → List History → ℕ
read_versions [] fs = 0
read_versions (c ∷ cs) [] = 0
read_versions (c ∷ cs) (f ∷ fs) = version_of f c + read_versions cs fs

pub version_grows : (c : ℕ) (p h : History) → IsPrefix p h → version_of p c ≤ version_of h c
version_grows c p h begins = let v : version_of h c ≡ version_of p c + version_of begins.0 c = ap (λ z. version_of z c) (sym begins.1) ∙ version-append p begins.0 c in omega (arith, v)

-- another word is another version
other_version : (c : ℕ) (p h : History) → IsPrefix p h → word_of h c ≢ word_of p c → version_of p c + 1 ≤ version_of h c
other_version c p h begins differs =
    let v : version_of h c ≡ version_of p c + version_of begins.0 c = ap (λ z. version_of z c) (sym begins.1) ∙ version-append p begins.0 c in
    let some : version_of begins.0 c ≢ 0 = λ none. differs (ap (λ z. word_of z c) (sym begins.1) ∙ same_word p begins.0 c none) in
    omega (arith, v, some)

pub versions_from : (limits : Limits) (cs ws : List ℕ) (fs : List History) (p : History) → EachRead cs ws fs → AllGoOn limits p fs → versions p cs ≤ read_versions cs fs
versions_from limits [] [] [] p a go = omega arith
versions_from limits [] [] (f ∷ fs) p a go = absurd a
versions_from limits [] (w ∷ ws) fs p a go = absurd a
versions_from limits (c ∷ cs) [] fs p a go = absurd a
versions_from limits (c ∷ cs) (w ∷ ws) [] p a go = absurd a
versions_from limits (c ∷ cs) (w ∷ ws) (f ∷ fs) p a go = omega (arith, sum_by-cons (version_of p) c cs, versions_from limits cs ws fs p a.1 go.2, version_grows c p f go.0)

pub versions_to : (cs ws : List ℕ) (fs : List History) (p : History) → EachRead cs ws fs → AllBegin fs p → read_versions cs fs ≤ versions p cs
versions_to [] [] [] p a all = omega arith
versions_to [] [] (f ∷ fs) p a all = absurd a
versions_to [] (w ∷ ws) fs p a all = absurd a
versions_to (c ∷ cs) [] fs p a all = absurd a
versions_to (c ∷ cs) (w ∷ ws) [] p a all = absurd a
versions_to (c ∷ cs) (w ∷ ws) (f ∷ fs) p a all = omega (arith, sum_by-cons (version_of p) c cs, versions_to cs ws fs p a.1 all.1, version_grows c f p all.0)

-- a pass that is unequal to the one before it has a larger sum
pub unequal_passes : (limits : Limits) (cs ws vs : List ℕ) (fs gs : List History) (p : History) → EachRead cs ws fs → EachRead cs vs gs → AllBegin fs p → AllGoOn limits p gs → vs ≢ ws → read_versions cs fs + 1 ≤ read_versions cs gs
unequal_passes limits [] [] [] fs gs p a b before after differs = absurd (differs refl)
unequal_passes limits [] [] (v ∷ vs) fs gs p a b before after differs = absurd b
unequal_passes limits [] (w ∷ ws) vs fs gs p a b before after differs = absurd a
unequal_passes limits (c ∷ cs) [] vs fs gs p a b before after differs = absurd a
unequal_passes limits (c ∷ cs) (w ∷ ws) [] fs gs p a b before after differs = absurd b
unequal_passes limits (c ∷ cs) (w ∷ ws) (v ∷ vs) [] gs p a b before after differs = absurd a
unequal_passes limits (c ∷ cs) (w ∷ ws) (v ∷ vs) (f ∷ fs) [] p a b before after differs = absurd b
unequal_passes limits (c ∷ cs) (w ∷ ws) (v ∷ vs) (f ∷ fs) (g ∷ gs) p a b before after differs =
    let begins : IsPrefix f g = prefix_trans f p g before.0 after.0 in
    dite (ℕ_discrete v w)
    (λ same. let r = unequal_passes limits cs ws vs fs gs p a.1 b.1 before.1 after.2 (λ rest. differs (λ i. same i ∷ rest i)) in let k = version_grows c f g begins in omega (arith, r, k))
    (λ (other : v ≡ w → ⊥). let k = other_version c f g begins (λ e. other (b.0 ∙ (e ∙ sym a.0))) in
    let low = versions_to cs ws fs p a.1 before.1 in let high = versions_from limits cs vs gs p b.1 after.2 in omega (arith, k, low, high))

-- ---- one pass, read by read

pub pass_none : (limits : Limits) (lane : LaneView) → IsLegal limits (seen_by lane) → ReadPass limits lane lane [] []
pass_none limits lane legal = record { fronts = []; is = sym (moved_none lane); follow = tt; legal = legal; own_same = refl; read = tt }

pub pass_more : (limits : Limits) (before now next : LaneView) (cells words : List ℕ) (c w : ℕ) (h : History) → ReadPass limits before now cells words → c < limits.cells → Finds limits now c w h → next ≡ moved now (h ∷ [])
    → ReadPass limits before next (cells ++ c ∷ []) (words ++ w ∷ [])
pass_more limits before now next cells words c w h t below finds e =
    let f : Finds limits (moved before t.fronts) c w h = subst (λ l. Finds limits l c w h) t.is finds in
    let last : History = last_after (seen_by before) t.fronts in
    let seen_is : seen_by (moved before t.fronts) ≡ last = moved_seen before t.fronts in
    let end : last_after (seen_by before) (t.fronts ++ h ∷ []) ≡ h = last_append (seen_by before) t.fronts (h ∷ []) in record {
      fronts = t.fronts ++ h ∷ [];
      is = e ∙ (ap (λ l. moved l (h ∷ [])) t.is ∙ moved_again before t.fronts (h ∷ []));
      follow = follow_append (seen_by before) t.fronts (h ∷ []) t.follow (subst (λ z. IsPrefix z h) seen_is f.on.begins, tt);
      legal = subst (IsLegal limits) (sym end) f.on.legal;
      own_same = ap (own before.number) end ∙ (f.on.own_same ∙ (ap (own before.number) seen_is ∙ t.own_same));
      read = read_push cells words t.fronts c w h t.read (f.word_is.cell below);
    }

-- ---- pass after pass

-- a pass, said of the lane before the call, which had made these steps before it
pub record Latest (limits : Limits) (before now : LaneView) (earlier fronts : List History) (cells words : List ℕ) : Type 0 where
  pub is : now ≡ moved before (earlier ++ fronts)
  pub follow : Follow (last_after (seen_by before) earlier) fronts
  pub legal : IsLegal limits (last_after (seen_by before) (earlier ++ fronts))
  pub own_same : own before.number (last_after (seen_by before) (earlier ++ fronts)) ≡ own before.number (last_after (seen_by before) earlier)
  pub read : EachRead cells words fronts

-- so many passes came before the latest, and each but the first differed from the one before it
pub record Passes (limits : Limits) (before now : LaneView) (cells words : List ℕ) (count : ℕ) : Type 0 where
  pub earlier : List History
  pub fronts : List History
  pub follow : Follow (seen_by before) earlier
  pub own_same : own before.number (last_after (seen_by before) earlier) ≡ own before.number (seen_by before)
  pub latest : Latest limits before now earlier fronts cells words
  pub counted : count + versions (first_or (seen_by before) (earlier ++ fronts)) cells ≤ read_versions cells fronts
  pub steps : length earlier ≤ count * length cells

latest_of : (limits : Limits) (before now : LaneView) (earlier : List History) (cells words : List ℕ) (t : ReadPass limits (moved before earlier) now cells words) → Latest limits before now earlier t.fronts cells words
latest_of limits before now earlier cells words t =
    let seen_is = moved_seen before earlier in
    let last : last_after (seen_by (moved before earlier)) t.fronts ≡ last_after (seen_by before) (earlier ++ t.fronts) = ap (λ z. last_after z t.fronts) seen_is ∙ sym (last_append (seen_by before) earlier t.fronts) in record {
      is = t.is ∙ moved_again before earlier t.fronts;
      follow = subst (λ z. Follow z t.fronts) seen_is t.follow;
      legal = subst (IsLegal limits) last t.legal;
      own_same = ap (own before.number) (sym last) ∙ (t.own_same ∙ ap (own before.number) seen_is);
      read = t.read;
    }

pub latest_from : (limits : Limits) (before now next : LaneView) (earlier : List History) (cells words : List ℕ) → now ≡ moved before earlier → (t : ReadPass limits now next cells words) → Latest limits before next earlier t.fronts cells words
latest_from limits before now next earlier cells words is = subst (λ l. (t : ReadPass limits l next cells words) → Latest limits before next earlier t.fronts cells words) (sym is) (latest_of limits before next earlier cells words)

pub passes_once : (limits : Limits) (before now : LaneView) (cells words : List ℕ) → ReadPass limits before now cells words → Passes limits before now cells words 0
passes_once limits before now cells words t = record {
  earlier = [];
  fronts = t.fronts;
  follow = tt;
  own_same = refl;
  latest = latest_from limits before before now [] cells words (sym (moved_none before)) t;
  counted = let v = versions_from limits cells words t.fronts (first_or (seen_by before) t.fronts) t.read (first_go_on limits (seen_by before) t.fronts t.follow t.legal) in omega (arith, v);
  steps = omega arith;
}

pub some_cells : (cs ws vs : List ℕ) (fs gs : List History) → EachRead cs ws fs → EachRead cs vs gs → vs ≢ ws → 1 ≤ length fs
some_cells [] [] [] fs gs a b differs = absurd (differs refl)
some_cells [] [] (v ∷ vs) fs gs a b differs = absurd b
some_cells [] (w ∷ ws) vs fs gs a b differs = absurd a
some_cells (c ∷ cs) [] vs fs gs a b differs = absurd a
some_cells (c ∷ cs) (w ∷ ws) vs [] gs a b differs = absurd a
some_cells (c ∷ cs) (w ∷ ws) vs (f ∷ fs) gs a b differs = omega arith

-- the first front of two lists of fronts is a part of the last one of the first list, where that is empty only if both are
pub first_before : (h : History) (fs gs : List History) → Follow h fs → (length fs ≡ 0 → length gs ≡ 0) → IsPrefix (first_or h (fs ++ gs)) (last_after h fs)
first_before h [] [] all none = prefix_refl h
first_before h [] (g ∷ gs) all none = let bad : length (g ∷ gs) ≡ 0 = none refl in absurd (omega (arith, bad))
first_before h (f ∷ fs) gs all none = follow_last f fs all.1

-- what is true of the latest pass and the one behind it
module _ (limits : Limits) (before now next : LaneView) (cells words again : List ℕ) (count : ℕ) (t : Passes limits before now cells words count) (pass : ReadPass limits now next cells again) where
  abbrev both : List History
  both = t.earlier ++ t.fronts

  -- the front after the last read of the earlier of the two
  abbrev middle : History
  middle = last_after (seen_by before) (t.earlier ++ t.fronts)

  pub next_latest : Latest limits before next (t.earlier ++ t.fronts) pass.fronts cells again
  next_latest = latest_from limits before now next (t.earlier ++ t.fronts) cells again t.latest.is pass

  follow_both : Follow (seen_by before) (t.earlier ++ t.fronts)
  follow_both = follow_append (seen_by before) t.earlier t.fronts t.follow t.latest.follow

  pub reads_begin : AllBegin t.fronts (last_after (seen_by before) (t.earlier ++ t.fronts))
  reads_begin = subst (AllBegin t.fronts) (sym (last_append (seen_by before) t.earlier t.fronts)) (follow_begin (last_after (seen_by before) t.earlier) t.fronts t.latest.follow)

  pub reads_go_on : AllGoOn limits (last_after (seen_by before) (t.earlier ++ t.fronts)) pass.fronts
  reads_go_on = follow_go_on limits middle pass.fronts next_latest.follow (subst (IsLegal limits) (last_append (seen_by before) both pass.fronts) next_latest.legal)

  both_length : length (t.earlier ++ t.fronts) ≤ (count + 1) * length cells
  both_length = let a = length-append t.earlier t.fronts in let b = (read_length cells words t.fronts t.latest.read).0 in let steps = t.steps in omega (arith, a, b, steps)

  -- a further pass, which differs
  pub passes_again : again ≢ words → Passes limits before next cells again (count + 1)
  passes_again differs =
      let more : read_versions cells t.fronts + 1 ≤ read_versions cells pass.fronts = unequal_passes limits cells words again t.fronts pass.fronts middle t.latest.read next_latest.read reads_begin reads_go_on differs in
      let some : 1 ≤ length t.fronts = some_cells cells words again t.fronts pass.fronts t.latest.read next_latest.read differs in
      let long : 1 ≤ length both = let a = length-append t.earlier t.fronts in omega (arith, a, some) in
      let counted = t.counted in
      let first : versions (first_or (seen_by before) (both ++ pass.fronts)) cells ≡ versions (first_or (seen_by before) both) cells = ap (λ z. versions z cells) (first_append (seen_by before) both pass.fronts long) in
      record {
        earlier = both;
        fronts = pass.fronts;
        follow = follow_both;
        own_same = t.latest.own_same ∙ t.own_same;
        latest = next_latest;
        counted = omega (arith, more, counted, first);
        steps = both_length;
      }

  all_length : length (call_fronts before next) ≡ length (both ++ pass.fronts)
  all_length = subst (λ l. length (call_fronts before l) ≡ length (both ++ pass.fronts)) (sym next_latest.is) (ap length (moved_fronts before (both ++ pass.fronts)))

  pub steps_within : (tries : ℕ) → count + 1 ≤ tries → length (call_fronts before next) ≤ length cells * (tries + 1)
  steps_within tries within =
      let m = mul-le-mul_right (length cells) within in let a = length-append both pass.fronts in
      let b = both_length in let n = (read_length cells again pass.fronts next_latest.read).0 in let all = all_length in omega (arith, m, a, b, n, all)

  calls : Calls limits before next []
  calls = subst (λ z. Calls limits before z []) (sym next_latest.is)
      (calls_moved lane_of before (both ++ pass.fronts) [] (follow_append (seen_by before) both pass.fronts follow_both next_latest.follow)
      ((next_latest.own_same ∙ (t.latest.own_same ∙ t.own_same)) ∙ sym (append-nil (own before.number (seen_by before)))))

  -- two equal passes are of one point
  module _ (same : again ≡ words) (few : limits.numbers < 2 ^ 20) where
    words_are : again ≡ map (word_of (last_after (seen_by before) (t.earlier ++ t.fronts))) cells
    words_are = equal_passes limits cells again t.fronts pass.fronts middle few (subst (λ ws. EachRead cells ws t.fronts) (sym same) t.latest.read) next_latest.read reads_begin reads_go_on

    take_front : (fs gs : List History) (n : ℕ) → length gs ≡ n → take (length (fs ++ gs) - n) (fs ++ gs) ≡ fs
    take_front [] gs n is = let e : length gs - n ≡ 0 = omega (arith, is) in ap (λ k. take k gs) e
    take_front (f ∷ fs) gs n is =
        let l = length-append fs gs in
        let e : suc (length (fs ++ gs)) - n ≡ suc (length (fs ++ gs) - n) = omega (arith, l, is) in
        ap (λ k. take k (f ∷ (fs ++ gs))) e ∙ ap (λ z. f ∷ z) (take_front fs gs n is)

    middle_is : before_last_pass (length cells) before next ≡ last_after (seen_by before) (t.earlier ++ t.fronts)
    middle_is =
        ap (before_last_pass (length cells) before) next_latest.is
        ∙ ap (λ fs. last_after (seen_by before) (take (length fs - length cells) fs)) (moved_fronts before (both ++ pass.fronts))
        ∙ ap (last_after (seen_by before)) (take_front both pass.fronts (length cells) (read_length cells again pass.fronts next_latest.read).0)

    pub moment : again ≡ map (word_of (before_last_pass (length cells) before next)) cells
    moment = words_are ∙ ap (λ p. map (word_of p) cells) (sym middle_is)

    point : IsAnswerPoint before next [] (last_after (seen_by before) (t.earlier ++ t.fronts))
    point =
        let a = length-append t.earlier t.fronts in let b = (read_length cells words t.fronts t.latest.read).0 in let n = (read_length cells again pass.fronts next_latest.read).0 in
        subst (λ z. IsAnswerPoint before z [] middle) (sym next_latest.is) (
          subst (λ fs. IsPrefix (first_or (seen_by before) fs) middle) (sym (moved_fronts before (both ++ pass.fronts)))
              (first_before (seen_by before) both pass.fronts follow_both (λ none. omega (arith, a, b, n, none))),
          subst (IsPrefix middle) (sym (last_append (seen_by before) both pass.fronts) ∙ sym (moved_seen before (both ++ pass.fronts))) (follow_last middle pass.fronts next_latest.follow),
        )

    is_stepped : 1 ≤ length cells → IsStepped before next
    is_stepped some = let all = all_length in let a = length-append both pass.fronts in let n = (read_length cells again pass.fronts next_latest.read).0 in omega (arith, all, a, n, some)

    pub stood : (x y : Lane) → x.cells.limits ≡ limits → x.view ≡ before → y.view ≡ next → StoodTogether x y cells again
    stood x y limits_are first second = record {
      calls = subst (λ l. Calls l x.view y.view []) (sym limits_are) (subst (λ (z : LaneView × LaneView). Calls limits z.0 z.1 []) (λ i. (sym first i, sym second i)) calls);
      stepped = λ some. subst (λ (z : LaneView × LaneView). IsStepped z.0 z.1) (λ i. (sym first i, sym second i)) (is_stepped some);
      point = (middle, subst (λ (z : LaneView × LaneView). IsAnswerPoint z.0 z.1 [] middle) (λ i. (sym first i, sym second i)) point, words_are);
    }

-- where no two passes were equal, other lanes made an event for each of them
module _ (limits : Limits) (before now : LaneView) (cells words : List ℕ) (count : ℕ) (apart : IsDistinct nat_eq cells) (t : Passes limits before now cells words count) where
  abbrev added : List History
  added = t.earlier ++ t.fronts

  follow_all : Follow (seen_by before) (t.earlier ++ t.fronts)
  follow_all = follow_append (seen_by before) t.earlier t.fronts t.follow t.latest.follow

  own_is : own before.number (last_after (seen_by before) (t.earlier ++ t.fronts)) ≡ own before.number (seen_by before)
  own_is = t.latest.own_same ∙ t.own_same

  pub passes_overtaken : (tries : ℕ) → tries ≤ count → IsOvertaken limits tries before now
  passes_overtaken tries all =
      let last : History = last_after (seen_by before) added in
      let last_is : last ≡ last_after (last_after (seen_by before) t.earlier) t.fronts = last_append (seen_by before) t.earlier t.fronts in
      let first : History = first_or (seen_by before) added in
      let begins : IsPrefix first last = first_to_last (seen_by before) added follow_all in
      let m : History = begins.0 in
      let counted = t.counted in
      let high : read_versions cells t.fronts ≤ versions last cells = versions_to cells words t.fronts last t.latest.read (subst (AllBegin t.fronts) (sym last_is) (follow_begin (last_after (seen_by before) t.earlier) t.fronts t.latest.follow)) in
      let sum : versions last cells ≡ versions first cells + versions m cells = ap (λ z. versions z cells) (sym begins.1) ∙ versions-append first m cells in
      let low : versions m cells ≤ length m = versions_within m cells apart in
      let start = first_follows (seen_by before) added follow_all in
      let none : own before.number m ≡ [] = own_rest start.0 m last (sym (append_assoc (seen_by before) start.0 m) ∙ (ap (λ z. z ++ m) start.1 ∙ begins.1)) own_is in
      record {
        calls = subst (λ z. Calls limits before z []) (sym t.latest.is) (calls_moved lane_of before added [] follow_all (own_is ∙ sym (append-nil (own before.number (seen_by before)))));
        passed = (
          m,
          subst (λ z. seen_by z ≡ first_front before z ++ m) (sym t.latest.is) (moved_seen before added ∙ (sym begins.1 ∙ ap (λ fs. first_or (seen_by before) fs ++ m) (sym (moved_fronts before added)))),
          none,
          omega (arith, counted, high, sum, low, all),
        );
      }
    where
      nil_right : (xs ys : History) → xs ++ ys ≡ [] → ys ≡ []
      nil_right [] ys e = e
      nil_right (x ∷ xs) ys e = absurd (cc e)

      own_rest : (x m last : History) → seen_by before ++ (x ++ m) ≡ last → own before.number last ≡ own before.number (seen_by before) → own before.number m ≡ []
      own_rest x m last is same = nil_right (own before.number x) (own before.number m) (sym (own_append lane_of before.number x m) ∙ own_past lane_of before.number (seen_by before) (x ++ m) (ap (own before.number) is ∙ same))

  -- and all of these were on the cells
  pub passes_on : (tries : ℕ) → tries ≤ count → IsOvertakenOn tries cells before now
  passes_on tries all =
      let last : History = last_after (seen_by before) added in
      let last_is : last ≡ last_after (last_after (seen_by before) t.earlier) t.fronts = last_append (seen_by before) t.earlier t.fronts in
      let counted = t.counted in
      let high : read_versions cells t.fronts ≤ versions last cells = versions_to cells words t.fronts last t.latest.read (subst (AllBegin t.fronts) (sym last_is) (follow_begin (last_after (seen_by before) t.earlier) t.fronts t.latest.follow)) in
      subst (λ z. IsOvertakenOn tries cells before z) (sym t.latest.is)
      (subst (λ (z : History × History). versions z.0 cells + tries ≤ versions z.1 cells) (λ i. (ap (λ fs. first_or (seen_by before) fs) (sym (moved_fronts before added)) i, sym (moved_seen before added) i)) (omega (arith, counted, high, all)))

  pub steps_all : (tries : ℕ) → count ≤ tries → length (call_fronts before now) ≤ length cells * (tries + 1)
  steps_all tries within =
      let a = length-append t.earlier t.fronts in let b = (read_length cells words t.fronts t.latest.read).0 in let steps = t.steps in
      let m = mul-le-mul_right (length cells) within in
      let n : length (call_fronts before now) ≡ length (t.earlier ++ t.fronts) = subst (λ z. length (call_fronts before z) ≡ length (t.earlier ++ t.fronts)) (sym t.latest.is) (ap length (moved_fronts before added)) in
      omega (arith, m, n, a, b, steps)

  pub passes_legal : IsLegal limits (seen_by now)
  passes_legal = subst (λ l. IsLegal limits (seen_by l)) (sym t.latest.is) (subst (IsLegal limits) (sym (moved_seen before added)) t.latest.legal)

-- ---- the cells that are left to read

pub known_at : (n : ℕ) (cs : List ℕ) (i : ℕ) → All (λ cell. cell < n) cs → i < length cs → get_or cs i 0 < n
known_at n cs i all within = all i 0 within

pub take_next : (cs : List ℕ) (i : ℕ) → i < length cs → take (i + 1) cs ≡ take i cs ++ get_or cs i 0 ∷ []
take_next cs i within = ap (λ n. take n cs) (add-one i) ∙ take-suc cs i 0 within
