-- The seats of a store that was opened, and the slots that they are given to.
use Rattle.std.proofs.Common.{ℕ, zero, suc, ◌≡◌, ◌<◌, ◌≤◌, ◌+◌, List, [], ◌∷◌, ◌++◌, length, take, drop, map, ap, sym, subst, ◌∙◌, refl, arith, ◌⊎◌, inl, inr, Some}
use Rattle.std.specs.Prelude.{Option}
use Rattle.std.specs.Global.{Box}
use Rattle.std.specs.List.{AllZip}
use Rattle.std.proofs.lemmas.Slice.Zip.{AllZip-long}
use Rattle.std.proofs.Common.{add-one}
use Rattle.std.proofs.lemmas.List.{length_push}
use Rattle.ext_cells.specs.Lanes.{CellsId, fresh_lanes}
use Rattle.ext_model.specs.Sizes.{most_contexts}
use Rattle.ext_store.specs.declared.limits.Limits.{Limits}
use Rattle.ext_store.specs.Stores.{CloserView, StoreLane, StoreView, fresh_store_lane}
use Rattle.ext_c.specs.declared.code.Code.{Code}
use Rattle.ext_c.specs.declared.code.Code.TheVariants as code
use Rattle.ext_c.specs.declared.handle.Handle.{Handle}
use Rattle.ext_c.specs.declared.seat.Seat.{Seat}
use Rattle.ext_c.specs.declared.slot.ExtSlot.{ExtSlot}
use Rattle.ext_c.proofs.Cut.{take_all, zip_push}
use Rattle.ext_c.specs.Limits.{AreInRange}
use Rattle.ext_c.specs.Opening.{AreEmpty, AreSeats, HasSeatOf, HaveLanes, IsIn, IsSeatOf, OpenSays, all_closers, lanes_below}
use Rattle.ext_c.specs.Texts.{AreTexts, NamesNoTree}

-- ---- slots that have seats

has_seat : (store : StoreView) (closers : List (Option CloserView)) (lane : StoreLane Handle) (seat : Box Seat) (slot : ExtSlot) → IsSeatOf store closers lane seat.value → IsIn seat slot
    → HasSeatOf store closers lane slot
has_seat store closers lane seat slot is within = record { filled = within.filled; seat = seat.value; has = within.has; is = is }

record Split (store : StoreView) (closers : List (Option CloserView)) (lanes : List (StoreLane Handle)) (last_lane : StoreLane Handle) (slots : List ExtSlot) : Type 0 where
  pub front : List ExtSlot
  pub end : ExtSlot
  pub is : slots ≡ front ++ end ∷ []
  pub others : AllZip (HasSeatOf store []) lanes front
  pub last : HasSeatOf store closers last_lane end

module _ (store : StoreView) (closers : List (Option CloserView)) (last_lane : StoreLane Handle) (last_seat : Box Seat) (last : IsSeatOf store closers last_lane last_seat.value) where
  split : (lanes : List (StoreLane Handle)) (seats : List (Box Seat)) (slots : List ExtSlot) → AllZip (λ lane seat. IsSeatOf store [] lane seat.value) lanes seats
      → AllZip IsIn (seats ++ last_seat ∷ []) slots → Split store closers lanes last_lane slots
  split [] [] [] others within = absurd within
  split [] [] (slot ∷ []) others within = record { front = []; end = slot; is = refl; others = tt; last = has_seat store closers last_lane last_seat slot last within.0 }
  split [] [] (slot ∷ more ∷ slots) others within = absurd within.1
  split [] (seat ∷ seats) slots others within = absurd others
  split (lane ∷ lanes) [] slots others within = absurd others
  split (lane ∷ lanes) (seat ∷ seats) [] others within = absurd within
  split (lane ∷ lanes) (seat ∷ seats) (slot ∷ slots) others within =
      let rest = split lanes seats slots others.1 within.1 in
      record { front = slot ∷ rest.front; end = rest.end; is = ap (λ (k : List ExtSlot). slot ∷ k) rest.is; others = (has_seat store [] lane seat slot others.0 within.0, rest.others); last = rest.last }

pub have_lanes : (store : StoreView) (lanes : List (StoreLane Handle)) (closers : List CloserView) (seats : List (Box Seat)) (slots : List ExtSlot) → AreSeats store lanes closers seats
    → map Some closers ≡ all_closers store → AllZip IsIn seats slots → HaveLanes store lanes slots
have_lanes store lanes closers seats slots are same within =
    let last : IsSeatOf store (all_closers store) are.last_lane are.last_seat.value = subst (λ (cs : List (Option CloserView)). IsSeatOf store cs are.last_lane are.last_seat.value) same are.last in
    let s = split store (all_closers store) are.last_lane are.last_seat last are.other_lanes are.other_seats slots are.others (subst (λ (bs : List (Box Seat)). AllZip IsIn bs slots) are.all_seats within) in
    record {
      other_lanes = are.other_lanes;
      last_lane = are.last_lane;
      all_lanes = are.all_lanes;
      other_slots = s.front;
      last_slot = s.end;
      all_slots = s.is;
      others = s.others;
      last = s.last;
    }

-- ---- seats

pub seat_as : (store own : StoreView) (closers : List (Option CloserView)) (lane : StoreLane Handle) (seat : Seat) → IsSeatOf own closers lane seat → own ≡ store → closers ≡ [] → IsSeatOf store [] lane seat
seat_as store own closers lane seat is same none = record { store_is = is.store_is ∙ same; lane_is = is.lane_is; closers_are = is.closers_are ∙ none; unclaimed = is.unclaimed }

pub seat_next : {A B : Type 0} (R : A → B → Type 0) (xs : List A) (ys more : List B) (x : A) (y : B) → AllZip R xs ys → more ≡ ys ++ y ∷ [] → R x y → AllZip R (xs ++ x ∷ []) more
seat_next R xs ys more x y so_far is one = subst (λ (l : List _). AllZip R (xs ++ x ∷ []) l) (sym is) (zip_push R xs ys x y so_far one)

-- ---- how many they are

fresh_count : (slots fault_slots keys : List ℕ) (cells : CellsId) (first n : ℕ) → length (map (fresh_store_lane {V = Handle} slots fault_slots keys) (fresh_lanes cells first n)) ≡ n
fresh_count slots fault_slots keys cells first zero = refl
fresh_count slots fault_slots keys cells first (suc n) = ap suc (fresh_count slots fault_slots keys cells (first + 1) n)

pub seat_count : (store : StoreView) (n : ℕ) (closers : List CloserView) (seats : List (Box Seat)) → AreSeats store (lanes_below store n) closers seats → length seats ≡ n
seat_count store n closers seats are =
    let same : length are.other_seats ≡ length are.other_lanes = AllZip-long (λ lane seat. IsSeatOf store [] lane seat.value) are.other_lanes are.other_seats are.others in
    ap (λ (l : List (Box Seat)). length l) are.all_seats ∙ (length_push are.other_seats are.last_seat ∙ (ap (λ (k : ℕ). k + 1) same
    ∙ (sym (length_push are.other_lanes are.last_lane) ∙ (ap (λ (l : List (StoreLane Handle)). length l) (sym are.all_lanes)
    ∙ fresh_count store.id.slots store.id.fault_slots store.id.keys store.id.cells 0 n))))

-- ---- one seat more in a slot

-- as far as the loop came: the seats given stand in the slots, and the others are left
pub record Given (seats left : List (Box Seat)) (slots : List ExtSlot) (i : ℕ) : Type 0 where
  pub stand : AllZip IsIn (take i seats) (take i slots)
  pub rest : left ≡ drop i seats

drop_next : {A : Type 0} (xs : List A) (i : ℕ) (x : A) (rest : List A) → drop i xs ≡ x ∷ rest → (take (suc i) xs ≡ take i xs ++ x ∷ []) × (drop (suc i) xs ≡ rest)
drop_next [] zero x rest e = absurd (cc)
drop_next [] (suc i) x rest e = absurd (cc)
drop_next (y ∷ ys) zero x rest e = (ap (λ (d : List _). take 1 d) e, ap (λ (d : List _). drop 1 d) e)
drop_next (y ∷ ys) (suc i) x rest e = let r = drop_next ys i x rest e in (ap (λ (d : List _). y ∷ d) r.0, r.1)

pub given_next : (seats left more_left : List (Box Seat)) (slots more : List ExtSlot) (i : ℕ) (seat : Box Seat) (slot : ExtSlot) → Given seats left slots i → left ≡ seat ∷ more_left → IsIn seat slot
    → take (i + 1) more ≡ take i slots ++ slot ∷ [] → Given seats more_left more (i + 1)
given_next seats left more_left slots more i seat slot so_far first within is =
    let r = drop_next seats i seat more_left (sym so_far.rest ∙ first) in
    record {
      stand = subst (λ (ss : List ExtSlot). AllZip IsIn (take (i + 1) seats) ss) (sym is)
          (subst (λ (bs : List (Box Seat)). AllZip IsIn bs (take i slots ++ slot ∷ [])) (sym (ap (λ (k : ℕ). take k seats) (add-one i) ∙ r.0))
          (zip_push IsIn (take i seats) (take i slots) seat slot so_far.stand within));
      rest = sym (ap (λ (k : ℕ). drop k seats) (add-one i) ∙ r.1);
    }

pub given_all : (seats left : List (Box Seat)) (slots : List ExtSlot) (i : ℕ) → Given seats left slots i → length slots ≤ i → length slots ≡ length seats → AllZip IsIn seats slots
given_all seats left slots i so_far le same =
    subst (λ (bs : List (Box Seat)). AllZip IsIn bs slots) (take_all seats i (subst (λ (n : ℕ). n ≤ i) same le))
    (subst (λ (ss : List ExtSlot). AllZip IsIn (take i seats) ss) (take_all slots i le) so_far.stand)

drop_more : {A : Type 0} (xs : List A) (i : ℕ) → length (drop i xs) ≡ 0 → length xs ≤ i
drop_more [] i e = omega arith
drop_more (y ∷ ys) zero e = absurd (omega (arith, e))
drop_more (y ∷ ys) (suc i) e = let r = drop_more ys i e in omega (arith, r)

pub left_none : (seats left : List (Box Seat)) (slots : List ExtSlot) (i : ℕ) → Given seats left slots i → length left ≡ 0 → i < length slots → length slots ≡ length seats → ⊥
left_none seats left slots i so_far none lt same =
    let le : length seats ≤ i = drop_more seats i (subst (λ (l : List (Box Seat)). length l ≡ 0) so_far.rest none) in omega (arith, le, lt, same)

-- ---- what an opening says that is refused

pub open_no_tree : (bytes lengths : List ℕ) (limits : Limits) (slots : List ExtSlot) (said : Code) → AreEmpty slots → AreInRange limits
    → NamesNoTree (most_contexts limits.size) bytes lengths said ⊎ (AreTexts bytes lengths × (said ≡ code.NoMemory)) → OpenSays bytes lengths limits slots slots said
open_no_tree bytes lengths limits slots said empty within (inl none) = OpenSays.no_tree empty within none refl
open_no_tree bytes lengths limits slots said empty within (inr memory) = OpenSays.no_memory empty within memory.0 refl memory.1
