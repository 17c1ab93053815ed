-- The faults among answers, and what is counted of one answer more.
use Rattle.std.proofs.Common.{◌≡◌, List, [], ◌∷◌, ◌++◌, map, refl, ap, sym, ◌∙◌, Option}
use Rattle.std.specs.Prelude.{Ok, Err, slice_get}
use Rattle.std.proofs.lemmas.List.{map-append}
use Rattle.ext_model.specs.declared.look.Fault.{Fault}
use Rattle.ext_model.specs.declared.closed.Closed.{Closed}
use Rattle.ext_model.specs.Closed.{closed_of, first_of}
use Rattle.ext_closing.specs.Closing.{Answer, counted, fault_in}

-- in order
abbrev pub faults_in : List Answer → List Fault
faults_in [] = []
faults_in (Ok done ∷ answers) = faults_in answers
faults_in (Err fault ∷ answers) = fault ∷ faults_in answers

pub faults-push_ok : (answers : List Answer) (done : Unit {0}) → faults_in (answers ++ Ok done ∷ []) ≡ faults_in answers
faults-push_ok [] done = refl
faults-push_ok (Ok first ∷ answers) done = faults-push_ok answers done
faults-push_ok (Err fault ∷ answers) done = ap (λ faults. fault ∷ faults) (faults-push_ok answers done)

pub faults-push_err : (answers : List Answer) (fault : Fault) → faults_in (answers ++ Err fault ∷ []) ≡ faults_in answers ++ fault ∷ []
faults-push_err [] fault = refl
faults-push_err (Ok first ∷ answers) fault = faults-push_err answers fault
faults-push_err (Err first ∷ answers) fault = ap (λ faults. first ∷ faults) (faults-push_err answers fault)

-- the first of them is the one that is reported
pub first_told : (answers : List Answer) → slice_get (faults_in answers) 0 ≡ first_of (map fault_in answers)
first_told [] = refl
first_told (Ok done ∷ answers) = first_told answers
first_told (Err fault ∷ answers) = refl

pub counted_more : (before after : Closed) (answers : List Answer) (answer : Answer) (fault : Option Fault) → fault ≡ fault_in answer
    → ((closes : List (Option Fault)) → before ≡ closed_of closes → after ≡ closed_of (closes ++ fault ∷ [])) → before ≡ counted answers → after ≡ counted (answers ++ answer ∷ [])
counted_more before after answers answer fault same add is =
    add (map fault_in answers) is ∙ ap closed_of (ap (λ o. map fault_in answers ++ o ∷ []) same ∙ sym (map-append fault_in answers (answer ∷ [])))
