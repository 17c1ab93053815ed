-- `into_pointer` hands over what the lane owns. Assumes `Logic`.
use Rattle.std.proofs.Common.{◌≡◌, List, [], ◌∷◌, ◌++◌, refl, sym, Some}
use Rattle.std.specs.Prelude.{Option, IsSome}
use mir.Raw.{raw as bare}
use mir.Val.{Val, vptr}
use base.Logic.{SProp, emp, never, fst∗}
use prog.Wp.{WpFn}
use contract.Monad.{fact, fact_i}
use contract.Running.{tables}
use types.Logic.{sem}
use types.Kit.{‵, raw, ◌⊛◌, prop, ◌$◌, ◌∵◌, !, qed, by, move, drop, use0, split, rewrite, regoal, fsplit, fjoin}
use types.Part.{whole, sub, agg}
use types.Run.{stop, fld, of_opd, no_more, and_then, returns, enter}
use types.ByLocal.{alloc_all, pass_all, free_all, look_at, get, get_in, sets}
use denote.Exit.{rest, yes}
use denote.Memory.{lone}
use denote.RattleType.{RattleType, owns}
use denote.RawPtr.{Ptr, block_ptr, null_ptr, in_a_block}
use denote.Signature.{types_at, plain}
use denote.Steps.{nothing, heard}
use denote.Triple.Entry.{alive}
use denote.Triple.Walked.{Stays, stay_dropped, walk_of}
use Rattle.core.proofs.alloc.Calls.{Goes-blank, handle_tells}
use Rattle.std.proofs.raw_atomic.Walks.{proved_at, leaves}
use Rattle.std.specs.Box.Ownership.{box_owns}
use Rattle.std.specs.contracts.alloc.Global as heap
use Rattle.std.proofs.alloc.Global.TheLaws as heap_laws
use Rattle.std.specs.contracts.impls.GlobalAllocator.TheImpl.{ghosts}
use mir.Syntax.{Fn, impl, tnil, dnil}
use Rattle.ext_c.proofs.Pointers.{both, pointer_good, pointer_in}
use Rattle.ext_c.proofs.Steps.{lane_val, lane_told, some_of}
use Rattle.ext_c.specs.Held.{held}
use Rattle.ext_c.specs.contracts.seat.Seat as seat
use Rattle.ext_c.specs.contracts.lane.ExtLane as lane
use Rattle.ext_c.specs.declared.seat.Seat.{Seat}
use Rattle.ext_c.specs.contracts.lane.ExtLane.into_pointer as f
use Rattle.ext_c.proofs.lane.ExtLane.into_pointer.Statement.{statement}
use Rattle.ext_c.proofs.lane.ExtLane.into_pointer.Code as code

pub into_pointer_spec : {M : Type 1} → statement M
into_pointer_spec 𝓤 𝓛 𝓜 𝓡 wired =
    let H = 𝓛.H in
    let En = f.ended in
    let c = f.clauses 𝓛 𝓜.mem 𝓡.returns in
    let fn : Fn = code.function in
    let C = (tables 𝓤 H 𝓜 𝓡 𝓡.env).C in
    let Λ = (tables 𝓤 H 𝓜 𝓡 𝓡.env).Λ in
    let R : RattleType = seat.the_row in let Z : RattleType = heap.the_row in let LZ = heap_laws.the_row_laws in
    let Row : RattleType = lane.the_row in
    let stays : Stays En.signature.params En.kept = (stay_dropped (plain (λ _. Row)) yes, (stay_dropped (plain (λ _. Z)) yes, tt)) in
    proved_at 𝓛 En stays c 𝓜 𝓡 (Goes-blank 𝓛 0 (plain (λ _. Row)) yes (λ κs x f. tt), (Goes-blank 𝓛 0 (plain (λ _. Z)) yes (λ κs x f. tt), tt)) f.Key.name fn (code.unfolded 𝓤 H 𝓜 𝓡 wired) (λ z are.
    let Post : Val → SProp 𝓤 = (walk_of 𝓛 En stays c).post z in
    let x = z.0.3.0 in let a = z.0.3.1.0 in
    let Asked : Type 0 = IsSome x.seat in
    let told = lane_told x.at z.0.4.0 are.0.0 in
    qed 𝓛 ((raw (alive 𝓛 En.signature z.0.0 z.0.1) ⊛ ‵ (owns (types_at En.signature.params z.0.0) z.0.3 z.0.4)) ∷ raw (fact 𝓤 Asked) ∷ []) ∵ move ! (1 ∷ []) $ heard ! Asked (λ asked. split ! $ move ! (1 ∷ []) $
    let there = some_of x.seat asked in let s : Seat = there.0 in
    fsplit ! $ fsplit ! $ drop ! $ rewrite ! 0 (λ (m : Option Seat). ‵ (held m x.at)) there.1 refl $
    move ! (1 ∷ []) $ fsplit ! $ move ! (1 ∷ []) $ drop ! $ handle_tells (record { row = Z; laws = LZ; g = ghosts; d = impl [] tnil dnil; drops = impl [] tnil dnil }) ! a z.0.4.1.0 (λ h eh fits. move ! (1 ∷ []) $
    in_a_block ! x.at (λ p. box_owns (ghosts.dealloc_token a) R p s) (fst∗ 𝓤 (never 𝓤) (sem 𝓛 (ghosts.dealloc_token a (bare (lone R.mir)) null_ptr))) (λ b o e.
    regoal ! (λ (us : List Val). prop (WpFn 𝓤 H C Λ fn us Post)) (λ i. told i ++ (eh i ++ [])) refl $
    regoal ! (λ (p : Ptr). prop (WpFn 𝓤 H C Λ fn (lane_val p ∷ h ∷ []) Post)) e refl $
    enter ! C Λ fn (lane_val (block_ptr b o) ∷ h ∷ []) Post $
    alloc_all ! (λ l. pass_all ! refl ((tt, (tt, tt)), (fits, tt)) $
    sets ! (of_opd ! (get_in ! (fld ! refl (stop !)) (sub ! 0 refl (whole !)))) refl (tt, tt) $
    sets ! (of_opd ! (get ! refl)) refl (tt, tt) $
    sets ! (agg ! (and_then ! (get ! refl) (and_then ! (get ! refl) (no_more !)))) refl (pointer_good R Z LZ ghosts b o h fits) $
    returns ! (look_at ! 0 refl) $ free_all ! refl $
    pointer_in R Z LZ ghosts ! b o h a s $
    use0 𝓛 (raw (fact 𝓤 (Some s ≡ x.seat))) (fact_i 𝓤 (Some s ≡ x.seat) (emp 𝓤) (sym there.1)) $ nothing ! $ nothing ! $ fjoin ! $ nothing ! $ fjoin ! $ move ! (3 ∷ 0 ∷ 2 ∷ 1 ∷ []) $
    by ! (leaves 𝓛 En stays c z (both (vptr b o) h) (record { at = block_ptr b o; alloc = a; value = s }) (rest (Row.exit yes) x, (rest (Z.exit yes) a, tt)) (tt, (tt, tt))))))))
