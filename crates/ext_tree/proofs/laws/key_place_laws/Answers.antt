use Rattle.ext_tree.proofs.KeyPlaceLaws.{key_numbers_tell, placing_tells, shared_notes_agree}
use Rattle.ext_tree.proofs.laws.key_place_laws.Goals as goal

pub returns-clause-numbers : goal.returns-clause-numbers
returns-clause-numbers c = key_numbers_tell

pub returns-clause-shared : goal.returns-clause-shared
returns-clause-shared c = shared_notes_agree

pub returns-clause-placing : goal.returns-clause-placing
returns-clause-placing c = placing_tells
