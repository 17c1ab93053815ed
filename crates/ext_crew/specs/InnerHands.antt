-- What workers have in hand, their shares, and what is true of each worker. Only contracts within the crate cite it.
use Rattle.std.specs.Prelude.{◌≡◌, ℕ, ◌+◌, ◌-◌, ◌*◌, ◌<◌, ◌≤◌, min, length, List, [], ◌∷◌, All, ⊤}
use denote.Ref.{MutBor}
use denote.RattleType.{RattleType}
use denote.Param.Send.{IsSync, IsSend}
use denote.Param.Members.{Shared}
use Rattle.atomic_table.specs.Seated.{TableId}
use Rattle.ext_crew.specs.InnerCounter.{Hand, drawn, jobs_of, HasEnded, IsCounter}
use Rattle.ext_crew.specs.declared.jobs.done.Done.{Done}
use Rattle.ext_crew.specs.Dealing.{Share, front, back}

module _ {T O : Type 0} where
  abbrev pub draws_of : Hand T O → List ℕ
  draws_of hand = hand.me.0.draws

  abbrev pub given_of : Hand T O → List (Done O)
  given_of hand = hand.me.0.given

  abbrev pub jobs_done : Hand T O → List ℕ
  jobs_done hand = jobs_of hand.me.0.given

  -- Nothing was drawn yet.
  pub record IsReady (table : TableId) (items : List T) (hand : Hand T O) : Type 0 where
    pub same_table : hand.table_id ≡ table
    pub me : hand.me ≡ (drawn 1 [] [] items, [])

  -- The counter of `count` items, the first seat, from which the hands were split off, and the hands, which have drawn
  -- nothing yet.
  pub record IsOpened (table : TableId) (items : List T) (count : ℕ) (first : Hand T O) (hands : List (Hand T O))
      : Type 0 where
    pub counter : IsCounter table items count
    pub first_table : first.table_id ≡ table
    pub first_me : first.me ≡ (drawn (33 - length hands) [] [] items, [])
    pub few : length hands ≤ 32
    pub ready : All (λ h. IsReady table items h) hands

  -- The same for these items and this many workers.
  pub record IsOpenedFor (items : List T) (workers : ℕ) (table : TableId) (key : List T) (first : Hand T O)
      (hands : List (Hand T O)) : Type 0 where
    pub same_items : key ≡ items
    pub count : length hands ≡ workers
    pub opened : IsOpened table key (length items) first hands

  -- The hand drew the jobs that it did and gave back, and then a number past the last job.
  pub record HasWorked (table : TableId) (items : List T) (hand : Hand T O) : Type 0 where
    pub same_table : hand.table_id ≡ table
    pub ended : HasEnded items hand.me (given_of hand)

  -- The first seat has `left` hands still to take in.
  pub record IsFirst (table : TableId) (hand : Hand T O) (left : ℕ) : Type 0 where
    pub same_table : hand.table_id ≡ table
    pub parts : hand.me.0.parts + left ≡ 33
    pub some : 0 < hand.me.0.parts

-- ---- the shares

-- Both lists can be cut into `count` shares of `size` elements, of which the first `longer` have one more.
abbrev pub IsCut : {A B : Type 0} → ℕ → ℕ → ℕ → Share A B → Type 0
IsCut size longer count s = (length s.first ≡ count * size + longer) × (length s.second ≡ length s.first)
    × (longer ≤ count)

-- What threads ask of the types. Threads share the runtime and the work, and hand over the hands and the elements of
-- shares.
pub record Cross (R W H A B : RattleType) : Type 0 where
  pub runtime : IsSync R
  pub work : IsSync W
  pub hand : IsSend H
  pub first : IsSend A
  pub second : IsSend B

-- `P` holds of each hand and its share. Shares are cut off one after another, as in `WorkedFrom`.
abbrev pub EachShare : {H A B : Type 0} → (H → Share A B → Type 0) → ℕ → ℕ → List H → Share A B → Type 0
EachShare P size longer [] s = ⊤
EachShare P size longer (hand ∷ hands) s = P hand (front (size + min 1 longer) s)
    × EachShare P size (longer - 1) hands (back (size + min 1 longer) s)

-- `R` holds of each hand and its share, before and after.
abbrev pub EachShareChanges : {H A B : Type 0} → (H → Share A B → H → Share A B → Type 0) → ℕ → ℕ → List H → Share A B
    → List H → Share A B → Type 0
EachShareChanges R size longer [] s [] t = s ≡ t
EachShareChanges R size longer [] s (k ∷ ks) t = ⊥
EachShareChanges R size longer (h ∷ hs) s [] t = ⊥
EachShareChanges R size longer (h ∷ hs) s (k ∷ ks) t =
    R h (front (size + min 1 longer) s) k (front (size + min 1 longer) t)
    × EachShareChanges R size (longer - 1) hs (back (size + min 1 longer) s) ks (back (size + min 1 longer) t)

-- The same as records, from whose types a proof reads `P` and `R`.
pub record AllShares {H A B : Type 0} (P : H → Share A B → Type 0) (size longer : ℕ) (hands : List H) (s : Share A B)
    : Type 0 where
  pub each : EachShare P size longer hands s

pub record AllSharesChange {H A B : Type 0} (R : H → Share A B → H → Share A B → Type 0) (size longer : ℕ) (hs : List H)
    (s : Share A B) (ks : List H) (t : Share A B) : Type 0 where
  pub each : EachShareChanges R size longer hs s ks t

module _ {F H A B : Type 0}
    (g : Shared F (MutBor H × (MutBor (List A) × (MutBor (List B) × Unit {0})))
    (Unit {0} × (MutBor H × (MutBor (List A) × (MutBor (List B) × Unit {0}))))) (f : F) where
  -- `f` may be called with the hand and the share.
  abbrev pub TakesShare : H → Share A B → Type 0
  TakesShare h s = (hand : MutBor H) (first : MutBor (List A)) (second : MutBor (List B)) → hand.now ≡ h
      → first.now ≡ s.first → second.now ≡ s.second → g.pre f (hand, (first, (second, tt)))

  -- Such a call may leave this hand and this share.
  pub record ChangesShare (h : H) (s : Share A B) (k : H) (t : Share A B) : Type 0 where
    pub hand : MutBor H
    pub first : MutBor (List A)
    pub second : MutBor (List B)
    pub lent : (hand.now ≡ h) × (first.now ≡ s.first) × (second.now ≡ s.second)
    pub hand_left : MutBor H
    pub first_left : MutBor (List A)
    pub second_left : MutBor (List B)
    pub call : g.post f (hand, (first, (second, tt))) (tt, (hand_left, (first_left, (second_left, tt))))
    pub left : (hand_left.now ≡ k) × (first_left.now ≡ t.first) × (second_left.now ≡ t.second)
