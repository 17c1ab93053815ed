-- Steps on the words of blocks, as marks lay them out.
use Rattle.std.proofs.Common.{◌≡◌, ◌≢◌, inl, inr, ℕ, ◌<◌, eqb, refl, sym, ap, subst, ◌∙◌, arith, Some, true, false, List, [], ◌∷◌, ◌++◌, Bool, Contains}
use mathlib.Core.Option.{some, none}
use prog.Atomic.{either}
use Rattle.atomic_table.specs.Table.{Me, step, Allows}
use Rattle.std.proofs.lemmas.Bool.Decides.{Decides-ltb, eqb_tells}
use Rattle.std.specs.Int.{bit_at}
use Rattle.ext_history.specs.Histories.{seen}
use Rattle.ext_history.proofs.Lists.{contains_here}
use Rattle.ext_model.specs.declared.event.Act.{Act}
use Rattle.ext_model.specs.History.{History, by, IsAllowed}
use Rattle.ext_cells.specs.declared.limits.CellLimits.{CellLimits}
use Rattle.ext_cells.specs.declared.view.View.{View}
use Rattle.ext_cells.specs.Standings.{Standing, At, Open, Ended, ended_word}
use Rattle.ext_cells.specs.InnerViews.{limits_of, knowing, led, sought, shown}
use Rattle.ext_cells.specs.InnerRule.{Kept}
use Rattle.ext_cells.specs.InnerTableSteps.{IsWordAt, FoundBy, IsKnown, by_index, by_use, MayExchange, Exchanged, Shows, LedTo, Led, SoughtBy, Sought, Marked, EndedBy}
use Rattle.ext_cells.specs.InnerMarks.{block_index, is_ended, end_of, has_mark, with_mark, standing_by, standing_in, marks}
use Rattle.ext_cells.proofs.BlockSteps.{leads, seeks, sets_mark, ends}
use Rattle.ext_cells.proofs.Marked.{is_layout, only_index, block_tells}
use Rattle.ext_cells.specs.InnerSteps.{IsShown, Found, Made, IsMarked}

-- ---- the steps may be made

module _ (limits : CellLimits) (slots id : ℕ) (me : Me (Act ℕ) View) (index lane : ℕ) (mine : me.0.lane ≡ Some lane) (same : limits.cells ≡ me.0.limits.cells) where
  pub may_lead : (aim cell : ℕ) → aim ≡ cell → cell < me.0.limits.cells → Allows (Kept limits (marks limits.cells)) slots id me index (λ n. n) (Led (marks me.0.limits.cells) aim (step slots index 0 0 none) me)
  may_lead aim cell is less =
      subst (λ (t : ℕ × ℕ). Allows (Kept limits (marks limits.cells)) slots id me index (λ n. n) (Led (marks t.0) t.1 (step slots index 0 0 none) me)) (λ i. (same i, sym is i))
      (leads limits (marks limits.cells) slots id me cell index lane (is_layout (limits_of limits)) mine less)

  pub may_seek : (aim cell : ℕ) → aim ≡ cell → cell < me.0.limits.cells → Allows (Kept limits (marks limits.cells)) slots id me index (λ n. n) (Sought (marks me.0.limits.cells) aim (step slots index 0 0 none) me)
  may_seek aim cell is less =
      subst (λ (t : ℕ × ℕ). Allows (Kept limits (marks limits.cells)) slots id me index (λ n. n) (Sought (marks t.0) t.1 (step slots index 0 0 none) me)) (λ i. (same i, sym is i))
      (seeks limits (marks limits.cells) slots id me cell index lane (is_layout (limits_of limits)) mine less)

  pub may_mark : (aim cell old new : ℕ) → aim ≡ cell → cell < me.0.limits.cells → index ≡ block_index me.0.limits.cells cell → standing_in old cell ≡ Open → new ≡ with_mark old cell
      → Allows (Kept limits (marks limits.cells)) slots id me index (λ n. either (eqb n old) new n) (Marked (marks me.0.limits.cells) aim (step slots index old new none) me)
  may_mark aim cell old new is less here open_is now =
      let l = marks limits.cells in
      let at : index ≡ block_index limits.cells cell = here ∙ ap (λ n. block_index n cell) (sym same) in
      let told : l.tells index old cell ≡ Some Open = ap (λ n. l.tells n old cell) at ∙ block_tells limits.cells old cell ∙ ap Some open_is in
      let fewer : cell < limits.cells = subst (λ n. cell < n) (sym same) less in
      subst (λ (t : ℕ × ℕ × ℕ). Allows (Kept limits l) slots id me index (λ n. either (eqb n old) t.2 n) (Marked (marks t.0) t.1 (step slots index old t.2 none) me)) (λ i. (same i, sym is i, sym now i))
      (sets_mark limits l slots id me cell index old lane (is_layout (limits_of limits)) mine less ((Decides-ltb limits.cells index).1 (omega (arith, at))) (omega (arith, at, fewer)) told)

  pub may_end : (operand : ℕ) → limits.cells < index → index < (marks limits.cells).width → Allows (Kept limits (marks limits.cells)) slots id me index end_of (EndedBy (marks me.0.limits.cells) (step slots index operand 0 none) me)
  may_end operand past fits =
      subst (λ n. Allows (Kept limits (marks limits.cells)) slots id me index end_of (EndedBy (marks n) (step slots index operand 0 none) me)) same
      (ends limits (marks limits.cells) slots id me index operand lane (is_layout (limits_of limits)) mine ((Decides-ltb limits.cells index).1 past) fits)

-- ---- what they tell

stands_marked : (block cell : ℕ) → has_mark block cell ≡ true → standing_in block cell ≡ At cell
stands_marked block cell is = ap (λ b. standing_by b (is_ended block) cell) is

stands_ended : (block cell : ℕ) → has_mark block cell ≡ false → is_ended block ≡ true → standing_in block cell ≡ Ended
stands_ended block cell isnt is = (λ i. standing_by (isnt i) (is i) cell)

pub stands_open : (block cell : ℕ) → has_mark block cell ≡ false → is_ended block ≡ false → standing_in block cell ≡ Open
stands_open block cell isnt not = (λ i. standing_by (isnt i) (not i) cell)

-- a cell that is neither open nor marked has ended
pub ended_left : (block cell : ℕ) → has_mark block cell ≡ false → (standing_in block cell ≡ Open → ⊥) → is_ended block ≡ true
ended_left block cell isnt closed = elim (eqb_tells (bit_at block 0) 1) [
  | inl t ↦ t.0
  | inr t ↦ absurd (closed (stands_open block cell isnt t.0))
]

block_says : (known cells index block aim cell : ℕ) → known ≡ cells → index ≡ block_index cells cell → aim ≡ cell → (marks known).tells index block aim ≡ Some (standing_in block cell)
block_says known cells index block aim cell same here is = (λ i. (marks (same i)).tells (here i) block (is i)) ∙ block_tells cells block cell

-- a history that was found by a view that knows other things
pub found_as : (v : View) (indexed : List (ℕ × ℕ)) (block least aim word : ℕ) (h : History) → FoundBy (knowing v indexed block least) aim word h → FoundBy v aim word h
found_as v indexed block least aim word h f = record { legal = f.legal; begins = f.begins; told = f.told; word_is = f.word_is; lane_is = f.lane_is; own_is = f.own_is }

pub is_shown : (v w : View) (h : History) → w ≡ shown v h → IsShown v w h
is_shown v w h e = record { indexed = v.indexed; block = v.block; least = v.least; is = e }

-- a load by a view that knows more
pub found_after : (v u w : View) (indexed : List (ℕ × ℕ)) (block least aim word : ℕ) (h : History) → u ≡ knowing v indexed block least → FoundBy u aim word h → w ≡ shown u h → Found v w aim word
found_after v u w indexed block least aim word h e f s = (
  h,
  found_as v indexed block least aim word h (subst (λ z. FoundBy z aim word h) e f),
  record { indexed = indexed; block = block; least = least; is = s ∙ ap (λ z. shown z h) e },
)

pub shown_word : (me after : Me (Act ℕ) View) (cell word : ℕ) → Shows cell word me after → Found me.0 after.0 cell word
shown_word me after cell word s = (s.0, s.1, is_shown me.0 after.0 s.0 (ap (λ z. z.0) s.2))

module _ (slots known cells index aim cell found : ℕ) (me after : Me (Act ℕ) View) (same : known ≡ cells) (here : index ≡ block_index cells cell) (is : aim ≡ cell) (told : Led (marks known) aim (step slots index 0 0 none) me found after) where
  led_to : (s : Standing) → standing_in found cell ≡ s → LedTo cell s me after
  led_to s stands = subst (λ k. LedTo k s me after) is (told s (block_says known cells index found aim cell same here is ∙ ap Some stands))

  pub led_marked : has_mark found cell ≡ true → after.0 ≡ led me.0 cell cell
  led_marked marked = ap (λ z. z.0) (led_to (At cell) (stands_marked found cell marked))

  pub led_ended : has_mark found cell ≡ false → is_ended found ≡ true → Found me.0 after.0 cell ended_word
  led_ended isnt ended = shown_word me after cell ended_word (led_to Ended (stands_ended found cell isnt ended))

  pub led_open : has_mark found cell ≡ false → is_ended found ≡ false → Found me.0 after.0 cell 0
  led_open isnt not = shown_word me after cell 0 (led_to Open (stands_open found cell isnt not))

pub knows_index : (v w : View) (cell : ℕ) → w ≡ led v cell cell → Contains w.indexed (cell, cell)
knows_index v w cell e = let P : View → Type 0 = λ z. Contains {X = ℕ × ℕ} z.indexed (cell, cell) in subst P (sym e) (contains_here (cell, cell) v.indexed)

-- ---- a cell gets its mark

-- what the lane has done once it found this word of the block: it led to the cell; or the cell is open, and the lane knows the word; or the block has ended
abbrev pub Marking : View → View → ℕ → ℕ → ℕ → Standing → Type 0
Marking v w index cell block (At at) = IsMarked v w cell
Marking v w index cell block Open = (indexed : List (ℕ × ℕ)) × (w ≡ knowing v indexed index block)
Marking v w index cell block Ended = Found v w cell ended_word

at_own : (marked ended : Bool) (cell at : ℕ) → standing_by marked ended cell ≡ At at → at ≡ cell
at_own true ended cell at is = cc is
at_own false true cell at is = absurd (cc is)
at_own false false cell at is = absurd (cc is)

is_marked : (v u w : View) (indexed : List (ℕ × ℕ)) (block least cell at : ℕ) → u ≡ knowing v indexed block least → at ≡ cell → w ≡ led u cell at → IsMarked v w cell
is_marked v u w indexed block least cell at e own s = record {
  indexed = (cell, at) ∷ indexed;
  block = block;
  least = least;
  is = s ∙ ap (λ z. led z cell at) e;
  there = subst (λ n. Contains {X = ℕ × ℕ} ((cell, at) ∷ indexed) (cell, n)) own (contains_here (cell, at) indexed);
}

sought_state : (v : View) (me after : Me (Act ℕ) View) (indexed : List (ℕ × ℕ)) (block least index cell found : ℕ) (s : Standing) → me.0 ≡ knowing v indexed block least → standing_in found cell ≡ s → SoughtBy cell s index found me after → Marking v after.0 index cell found s
sought_state v me after indexed block least index cell found (At at) e is told = is_marked v me.0 after.0 indexed block least cell at e (at_own (has_mark found cell) (is_ended found) cell at is) (ap (λ z. z.0) told)
sought_state v me after indexed block least index cell found Open e is told = (indexed, ap (λ z. z.0) told ∙ ap (λ z. sought z index found) e)
sought_state v me after indexed block least index cell found Ended e is told = found_after v me.0 after.0 indexed block least cell ended_word told.0 e told.1 (ap (λ z. z.0) told.2)

module _ (v : View) (slots known cells index aim cell : ℕ) (me after : Me (Act ℕ) View) (same : known ≡ cells) (here : index ≡ block_index cells cell) (is : aim ≡ cell) where
  seeks_to : (found : ℕ) (s : Standing) → Sought (marks known) aim (step slots index 0 0 none) me found after → standing_in found cell ≡ s → SoughtBy cell s index found me after
  seeks_to found s told stands = subst (λ k. SoughtBy k s index found me after) is (told s (block_says known cells index found aim cell same here is ∙ ap Some stands))

  -- the first load
  pub first_sought : (found : ℕ) → me.0 ≡ v → Sought (marks known) aim (step slots index 0 0 none) me found after → Marking v after.0 index cell found (standing_in found cell)
  first_sought found own told = sought_state v me after v.indexed v.block v.least index cell found (standing_in found cell) own refl (seeks_to found (standing_in found cell) told refl)

  -- an exchange that met another word
  pub next_sought : (indexed : List (ℕ × ℕ)) (block new found : ℕ) → me.0 ≡ knowing v indexed index block → found ≢ block → Marked (marks known) aim (step slots index block new none) me found after
      → Marking v after.0 index cell found (standing_in found cell) × (block < found)
  next_sought indexed block new found e ne did =
      let miss = did.0 ne in
      let least = miss.1 (ap (λ (z : View). z.block) e) in
      let knew : me.0.least ≡ block = ap (λ (z : View). z.least) e in (
        sought_state v me after indexed index block index cell found (standing_in found cell) e refl (subst (λ k. SoughtBy k (standing_in found cell) index found me after) is (miss.0 (standing_in found cell) (block_says known cells index found aim cell same here is))),
        omega (arith, least, knew, ne),
      )

  -- one that met the word
  pub now_marked : (indexed : List (ℕ × ℕ)) (block new found : ℕ) → me.0 ≡ knowing v indexed index block → found ≡ block → Marked (marks known) aim (step slots index block new none) me found after → IsMarked v after.0 cell
  now_marked indexed block new found e hit did =
      let m = did.1 hit in
      let told : Some (standing_in new cell) ≡ Some (At m.0) = sym (block_says known cells index new aim cell same here is) ∙ m.1 in
      is_marked v me.0 after.0 indexed index block cell m.0 e (at_own (has_mark new cell) (is_ended new) cell m.0 (one_standing told)) (ap (λ z. z.0) m.2 ∙ ap (λ n. led me.0 n m.0) is)
    where
      one_standing : {a b : Standing} → Some a ≡ Some b → a ≡ b
      one_standing e = cc e

-- ---- what the loop has come to

pub marking_open : (v w : View) (index cell block : ℕ) → has_mark block cell ≡ false → is_ended block ≡ false → Marking v w index cell block (standing_in block cell) → (indexed : List (ℕ × ℕ)) × (w ≡ knowing v indexed index block)
marking_open v w index cell block isnt not state = subst (Marking v w index cell block) (stands_open block cell isnt not) state

pub marking_ended : (v w : View) (index cell block : ℕ) → has_mark block cell ≡ false → is_ended block ≡ true → Marking v w index cell block (standing_in block cell) → Found v w cell ended_word
marking_ended v w index cell block isnt is state = subst (Marking v w index cell block) (stands_ended block cell isnt is) state

pub marking_marked : (v w : View) (index cell block : ℕ) → has_mark block cell ≡ true → Marking v w index cell block (standing_in block cell) → IsMarked v w cell
marking_marked v w index cell block is state = subst (Marking v w index cell block) (stands_marked block cell is) state

-- ---- an exchange

-- the lane knows where the word is, and has seen nothing more
pub record Ready (v w : View) (cells index : ℕ) : Type 0 where
  pub indexed : List (ℕ × ℕ)
  pub block : ℕ
  pub least : ℕ
  pub is : w ≡ knowing v indexed block least
  pub known : IsKnown (marks cells) w index index

pub ready_marked : (v w : View) (cells index : ℕ) → IsMarked v w index → Ready v w cells index
ready_marked v w cells index m = record {
  indexed = m.indexed;
  block = m.block;
  least = m.least;
  is = m.is;
  known = by_index (let P : View → Type 0 = λ z. Contains {X = ℕ × ℕ} z.indexed (index, index) in subst P (sym m.is) m.there);
}

pub ready_used : (v w : View) (known cells index old : ℕ) → w ≡ v → v.limits.cells ≡ cells → index < cells → IsWordAt (limits_of v.limits) (seen v.fronts) index old → old ≢ 0 → old ≢ ended_word → Ready v w known index
ready_used v w known cells index old e same less at began more =
    let within : index < v.limits.cells = omega (arith, same, less) in
    let word = at.cell within in record {
      indexed = v.indexed;
      block = v.block;
      least = v.least;
      is = e;
      known = subst (λ z. IsKnown (marks known) z index index) (sym e) (by_use (only_index known index) within (λ is. began (word ∙ is)) (λ is. more (word ∙ is)));
    }

module _ (v w : View) (cells index : ℕ) (r : Ready v w cells index) where
  pub may_still : (lane : ℕ) (act : Act ℕ) (old new : ℕ) → MayExchange v lane act index old new → MayExchange w lane act index old new
  may_still lane act old new may = subst (λ z. MayExchange z lane act index old new) (sym r.is) (record {
    lane_is = may.lane_is;
    here = may.here;
    within = may.within;
    allowed = λ h f. may.allowed h (found_as v r.indexed r.block r.least index old h f);
    leaves = λ h f. may.leaves h (found_as v r.indexed r.block r.least index old h f);
  })

  pub missed_so : (slots old new found : ℕ) (act : Act ℕ) (me after : Me (Act ℕ) View) → me.0 ≡ w → found ≢ old → Exchanged index (step slots index old new (some act)) me found after → Found v after.0 index found
  missed_so slots old new found act me after e ne did = let m = did.0 ne in found_after v me.0 after.0 r.indexed r.block r.least index found m.0 (e ∙ r.is) m.1 (ap (λ z. z.0) m.2)

  pub made_so : (slots old new found : ℕ) (act : Act ℕ) (me after : Me (Act ℕ) View) → me.0 ≡ w → found ≡ old → Exchanged index (step slots index old new (some act)) me found after → Made v after.0 index old act
  made_so slots old new found act me after e hit did lane mine =
      let own : me.0.lane ≡ Some lane = ap (λ (z : View). z.lane) (e ∙ r.is) ∙ mine in
      let m = did.1 hit lane act own refl in
      let f : FoundBy me.0 index old m.0 = subst (λ n. FoundBy me.0 index n m.0) hit m.1 in (
        m.0,
        found_as v r.indexed r.block r.least index old m.0 (subst (λ z. FoundBy z index old m.0) (e ∙ r.is) f),
        subst (λ (z : View). IsAllowed (limits_of z.limits) m.0 (by lane act)) (e ∙ r.is) m.2,
        record { indexed = r.indexed; block = r.block; least = r.least; is = ap (λ z. z.0) m.3 ∙ ap (λ z. shown z (m.0 ++ by lane act ∷ [])) (e ∙ r.is) },
      )
