-- Claims that a lane ends: it makes a later event on the cell.
use Rattle.std.proofs.Common.{◌≡◌, ℕ, suc, ◌+◌, ◌-◌, ◌<◌, ◌≤◌, ◌==◌, inl, inr, List, [], ◌∷◌, ◌++◌, Contains, Some, length, refl, ap, sym, subst, ◌∙◌, arith, eq-eqb}
use Rattle.std.specs.Prelude.{slice_get}
use mathlib.Core.List.{IsPrefix, append_cancel_left}
use base.Growing.{prefix_refl, prefix_trans}
use Rattle.std.proofs.lemmas.Bool.{cases_lt}
use Rattle.std.proofs.lemmas.List.Elements.{Contains-append_left}
use Rattle.std.proofs.lemmas.Option.{slice_get-get_or, slice_get_within}
use Rattle.ext_history.specs.Histories.{seen_by}
use Rattle.ext_history.proofs.Composed.{same_number, seen_goes_on}
use Rattle.ext_history.proofs.Lanes.{own_append}
use Rattle.ext_history.proofs.Lists.{contains_from_filter, contains_here, contains_later}
use Rattle.ext_history.proofs.Once.{contains-map}
use Rattle.ext_model.specs.declared.event.Act.{Act}
use Rattle.ext_model.specs.declared.event.Act.TheVariants.{Keep, Put, Remove, Claim, Fill, Fail, Abandon, Seal}
use Rattle.ext_model.specs.declared.event.Event.{Event}
use Rattle.ext_model.specs.CallActs.{Calls, LaneView, events_by}
use Rattle.ext_model.specs.Events.{place_of}
use Rattle.ext_model.specs.History.{History, Limits, by, lane_of, own}
use Rattle.ext_one_report.proofs.Events.{behind_part, behind_whole, cut_there, in_part, in_whole}
use Rattle.ext_one_report.proofs.OnCells.{passes}

-- ---- acts

-- If the act is a claim, one of these is on its cell
abbrev pub IsEndedBy : Act ℕ → List (Act ℕ) → Type 0
IsEndedBy (Keep number) acts = Unit {0}
IsEndedBy (Put cell number) acts = Unit {0}
IsEndedBy (Remove cell) acts = Unit {0}
IsEndedBy (Claim cell) acts = (act : Act ℕ) × Contains acts act × (place_of act ≡ Some cell)
IsEndedBy (Fill cell number) acts = Unit {0}
IsEndedBy (Fail cell number) acts = Unit {0}
IsEndedBy (Abandon cell) acts = Unit {0}
IsEndedBy (Seal cell) acts = Unit {0}

-- after each claim among the acts comes another act on its cell
abbrev pub AreEnded : List (Act ℕ) → Type 0
AreEnded [] = Unit {0}
AreEnded (act ∷ acts) = IsEndedBy act acts × AreEnded acts

ended_by_more : (act : Act ℕ) (first second : List (Act ℕ)) → IsEndedBy act first → IsEndedBy act (first ++ second)
ended_by_more (Keep number) first second ended = tt
ended_by_more (Put cell number) first second ended = tt
ended_by_more (Remove cell) first second ended = tt
ended_by_more (Claim cell) first second ended = (ended.0, Contains-append_left first second ended.0 ended.1, ended.2)
ended_by_more (Fill cell number) first second ended = tt
ended_by_more (Fail cell number) first second ended = tt
ended_by_more (Abandon cell) first second ended = tt
ended_by_more (Seal cell) first second ended = tt

pub ended_both : (first second : List (Act ℕ)) → AreEnded first → AreEnded second → AreEnded (first ++ second)
ended_both [] second one two = two
ended_both (act ∷ first) second one two = (ended_by_more act first second one.0, ended_both first second one.1 two)

-- a claim that is given up, and one after which a number was kept
pub ended_at_once : (cell : ℕ) (last : Act ℕ) → place_of last ≡ Some cell → IsEndedBy last [] → AreEnded (Claim cell ∷ last ∷ [])
ended_at_once cell last on alone = ((last, contains_here last [], on), (alone, tt))

pub ended_kept : (cell number : ℕ) (last : Act ℕ) → place_of last ≡ Some cell → IsEndedBy last [] → AreEnded (Claim cell ∷ Keep number ∷ last ∷ [])
ended_kept cell number last on alone = ((last, contains_later (Keep number) (last ∷ []) last (contains_here last []), on), (tt, (alone, tt)))

-- ---- a lane

-- the lane makes an event on the cell behind this place
pub record IsEndedAt (h : History) (lane place cell : ℕ) : Type 0 where
  pub later : ℕ
  pub event : Event ℕ
  pub behind : place < later
  pub there : slice_get h later ≡ Some event
  pub own_event : event.lane ≡ lane
  pub on : place_of event.act ≡ Some cell

-- The lane goes on, and each claim that it made between these two views has ended in the second
pub record EndsClaims (a b : LaneView) : Type 0 where
  pub number : b.number ≡ a.number
  pub begins : IsPrefix (seen_by a) (seen_by b)
  pub each : (place cell : ℕ) → slice_get (seen_by b) place ≡ Some (by a.number (Claim cell)) → length (seen_by a) ≤ place → IsEndedAt (seen_by b) a.number place cell

pub ends_same : (a : LaneView) → EndsClaims a a
ends_same a = record {
  number = refl;
  begins = prefix_refl (seen_by a);
  each = λ place cell there since. let less = slice_get_within (seen_by a) place (by a.number (Claim cell)) there in absurd (omega (arith, less, since));
}

pub ends_then : (a b c : LaneView) → EndsClaims a b → EndsClaims b c → EndsClaims a c
ends_then a b c one two = record {
  number = two.number ∙ one.number;
  begins = prefix_trans (seen_by a) (seen_by b) (seen_by c) one.begins two.begins;
  each = λ place cell there since. elim (cases_lt place (length (seen_by b))) [
    | inl below ↦
        let s = seen_by b in
        let claim : Event ℕ = by a.number (Claim cell) in
        let it = one.each place cell (in_part s two.begins.0 place claim below (subst (λ (l : History). slice_get l place ≡ Some claim) (sym two.begins.1) there)) since in
        record {
          later = it.later;
          event = it.event;
          behind = it.behind;
          there = subst (λ (l : History). slice_get l it.later ≡ Some it.event) two.begins.1 (in_whole s two.begins.0 it.later it.event it.there);
          own_event = it.own_event;
          on = it.on;
        }
    | inr past ↦
        let it = two.each place cell (subst (λ n. slice_get (seen_by c) place ≡ Some (by n (Claim cell))) (sym one.number) there) past in
        record { later = it.later; event = it.event; behind = it.behind; there = it.there; own_event = it.own_event ∙ one.number; on = it.on }
  ];
}

-- what the lane does behind a claim among these acts, an act on its cell is among
ended_among : (n cell : ℕ) (before later : History) (e : Event ℕ) (acts : List (Act ℕ)) → before ++ e ∷ later ≡ events_by n acts → AreEnded acts → e.act ≡ Claim cell
    → (act : Act ℕ) × Contains later (by n act) × (place_of act ≡ Some cell)
ended_among n cell [] later e [] is ended claims = absurd (cc is)
ended_among n cell [] later e (act ∷ acts) is ended claims =
    let same : e ≡ by n act = cc is in
    let rest : later ≡ events_by n acts = cc is in
    let it = subst (λ x. IsEndedBy x acts) (ap (λ (x : Event ℕ). x.act) (sym same) ∙ claims) ended.0 in
    (it.0, subst (λ (l : History). Contains l (by n it.0)) (sym rest) (contains-map (by n) acts it.0 it.1), it.2)
ended_among n cell (x ∷ before) later e [] is ended claims = absurd (cc is)
ended_among n cell (x ∷ before) later e (act ∷ acts) is ended claims =
    let rest : before ++ e ∷ later ≡ events_by n acts = cc is in
    ended_among n cell before later e acts rest ended.1 claims

-- the events of the lane behind a claim of its own
own_cut : (n cell : ℕ) (before later : History) (acts : List (Act ℕ)) → own n (before ++ by n (Claim cell) ∷ later) ≡ events_by n acts → own n before ++ by n (Claim cell) ∷ own n later ≡ events_by n acts
own_cut n cell before later acts is =
    let claim : Event ℕ = by n (Claim cell) in
    let first : own n (claim ∷ later) ≡ claim ∷ own n later = passes (λ (x : Event ℕ). lane_of x == n) claim later (eq-eqb n n refl) in
    ap (λ l. own n before ++ l) (sym first) ∙ (sym (own_append lane_of n before (claim ∷ later)) ∙ is)

ended_behind : (n cell : ℕ) (before later : History) (acts : List (Act ℕ)) → own n (before ++ by n (Claim cell) ∷ later) ≡ events_by n acts → AreEnded acts → IsEndedAt (before ++ by n (Claim cell) ∷ later) n (length before) cell
ended_behind n cell before later acts is ended =
    let it = ended_among n cell (own n before) (own n later) (by n (Claim cell)) acts (own_cut n cell before later acts is) ended refl in
    let event : Event ℕ = by n it.0 in
    let among = contains_from_filter (λ (x : Event ℕ). lane_of x == n) later event it.1 in
    let in_later : slice_get later among.0 ≡ Some event = slice_get-get_or later among.0 event among.1 ∙ ap Some among.2 in
    record {
      later = length before + suc among.0;
      event = event;
      behind = omega arith;
      there = behind_whole before (by n (Claim cell) ∷ later) (suc among.0) event in_later;
      own_event = refl;
      on = it.2;
    }

-- so it ends each claim among its events
ended_in_own : (n cell : ℕ) (more : History) (acts : List (Act ℕ)) → own n more ≡ events_by n acts → AreEnded acts → (place : ℕ) → slice_get more place ≡ Some (by n (Claim cell)) → IsEndedAt more n place cell
ended_in_own n cell more acts own_is ended place there =
    let cut = cut_there more place (by n (Claim cell)) there in
    subst (λ k. IsEndedAt more n k cell) cut.3
    (subst (λ (l : History). IsEndedAt l n (length cut.0) cell) (sym cut.2) (ended_behind n cell cut.0 cut.1 acts (subst (λ (l : History). own n l ≡ events_by n acts) cut.2 own_is) ended))

pub ends_acts : (a b : LaneView) (acts : List (Act ℕ)) → b.number ≡ a.number → IsPrefix (seen_by a) (seen_by b) → own a.number (seen_by b) ≡ own a.number (seen_by a) ++ events_by a.number acts → AreEnded acts → EndsClaims a b
ends_acts a b acts number begins own_is ended = record {
  number = number;
  begins = begins;
  each = λ place cell there since.
      let n = a.number in
      let s = seen_by a in
      let more = begins.0 in
      let claim : Event ℕ = by n (Claim cell) in
      let its : own n more ≡ events_by n acts = append_cancel_left (own n s) (own n more) (events_by n acts) (sym (own_append lane_of n s more) ∙ (ap (own n) begins.1 ∙ own_is)) in
      let k : ℕ = place - length s in
      let place_is : place ≡ length s + k = omega (arith, since) in
      let in_more : slice_get more k ≡ Some claim = sym (behind_part s more k place place_is) ∙ subst (λ (l : History). slice_get l place ≡ Some claim) (sym begins.1) there in
      let it = ended_in_own n cell more acts its ended k in_more in
      let last : ℕ = length s + it.later in
      let behind = it.behind in
      record {
        later = last;
        event = it.event;
        behind = omega (arith, place_is, behind);
        there = subst (λ (l : History). slice_get l last ≡ Some it.event) begins.1 (behind_whole s more it.later it.event it.there);
        own_event = it.own_event;
        on = it.on;
      };
}

pub ends_calls : (limits : Limits) (a b : LaneView) (acts : List (Act ℕ)) → Calls limits a b acts → AreEnded acts → EndsClaims a b
ends_calls limits a b acts calls ended = ends_acts a b acts (same_number calls) (seen_goes_on calls) calls.own_events ended
