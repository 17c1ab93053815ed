use Rattle.ext_values.proofs.NotesLaws.{nothing_is_known, known_within, notes_tell, learning_tells}
use Rattle.ext_values.proofs.laws.notes_laws.Goals as goal

pub returns : goal.returns
returns g c = record { nothing = nothing_is_known _; numbers = known_within; notes = notes_tell; learning = learning_tells }
