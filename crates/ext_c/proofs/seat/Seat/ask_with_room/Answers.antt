use Rattle.std.proofs.Common.{ℕ, ◌≡◌, ◌≤◌, ◌∙◌, ◌∷◌, [], length, rules, subst, sym}
use Rattle.ext_c.specs.Answers.{store_of}
use Rattle.ext_c.specs.Closing.{room_for}
use Rattle.ext_c.proofs.Writing.{same_room}
use Rattle.ext_c.proofs.seat.Seat.ask_with_room.Goals as goal

pub copy_to-requires : goal.copy_to-requires
copy_to-requires g c =
    let first : c.none-written.result.room ≡ room_for (store_of c.args.self.now) = c.none-written.ensures.room ∙ c.room.ensures.room in
    let last : c.close_into.new.written.room ≡ room_for (store_of c.args.self.now) =
    same_room (store_of c.args.self.now) c.args.closer (c.args.self.now.lane ∷ []) c.none-written.result c.in-Ok.field-0 (c.close_into.new.self.lane ∷ []) c.close_into.new.written c.in-Ok.ensures.happened ∙ first in
    (search rules, subst (λ (n : ℕ). n ≤ length c.args.values.now) (sym last) c.requires.room)
