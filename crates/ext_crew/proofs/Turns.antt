-- What holds of the jobs that a worker has run holds with one more.
use Rattle.std.proofs.Common.{◌≡◌, ℕ, List, [], ◌∷◌, ◌++◌, sym, subst}
use Rattle.std.specs.Prelude.{Some, slice_get}
use Rattle.std.proofs.lemmas.Fn.{FoldsTo-push}
use denote.Ref.{MutBor}
use denote.Param.Members.{Shared}
use Rattle.ext_crew.specs.Dealing.{Share, Runs, Calls, InTurn}
use Rattle.ext_crew.specs.declared.jobs.done.Done.{Done}
use Rattle.ext_crew.specs.declared.jobs.job.Job.{Job}

module _ {F A B T O : Type 0} (g : Shared F (ℕ × (T × (MutBor (List A) × (MutBor (List B) × Unit {0})))) (O × (MutBor (List A) × (MutBor (List B) × Unit {0})))) (f : F) (items : List T) where
  -- one more job
  pub turn-step : (job : Job T) (done more : List (Done O)) (last : Done O) (before between after : Share A B)
      → slice_get items job.index ≡ Some job.item → more ≡ done ++ last ∷ [] → last.job ≡ job.index → Calls g f job.index job.item between last.outcome after
      → InTurn (Runs g f items) done before between → InTurn (Runs g f items) more before after
  turn-step job done more last before between after item added is calls so_far =
      let R : Share A B → Done O → Share A B → Type 0 = λ s d t. Runs g f items d.job s d.outcome t in
      let Q : ℕ → Type 0 = λ n. Runs g f items n between last.outcome after in
      let run : Q job.index = record { item = job.item; item_is = item; calls = calls } in
      let G : List (Done O) → Type 0 = λ l. InTurn (Runs g f items) l before after in
      subst G (sym added) (FoldsTo-push R before done between last after so_far (subst Q (sym is) run))
