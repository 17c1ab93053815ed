use Rattle.std.proofs.Common.{◌≡◌, Bool, List, Option, codes, subst, sym}
use Rattle.clap.specs.Matches.{found_of}
use Rattle.clap.specs.Walk.{Row, first_of, one_of, rows_of}
use Rattle.clap.proofs.WalkLemmas.{first_value-rows, one_text-rows}
use Rattle.ext_model.specs.declared.size.Size.{Size}
use Rattle.ext_run.specs.declared.list_form.ListForm.{ListForm}
use Rattle.extrun.specs.CommandWords.{AsksCheck, AsksTask, IsListForm, IsPlanAlone, check_in}
use Rattle.extrun.specs.Flags.{IsFlag, IsSize}
use Rattle.extrun.specs.declared.command.Request.{Request}
use Rattle.extrun.proofs.Requests.{asks-weaker}
use Rattle.extrun.proofs.command.check_request.Goals as goal

asked : (rows : List Row) (races tree all lint : Bool) (form : Option ListForm) (size : Size) (request : Request) → IsFlag (one_of (codes "races") rows) races → IsFlag (one_of (codes "tree") rows) tree → IsFlag (one_of (codes "all") rows) all → IsFlag (one_of (codes "lint") rows) lint → IsListForm (first_of (codes "report") rows) form → IsSize rows size
    → AsksTask rows (check_in form lint races tree all size) request → AsksCheck rows request
asked rows races tree all lint form size request told drawn whole noted written size_asked asks =
    record { races = races; tree = tree; all = all; lint = lint; form = form; size = size; told = told; drawn = drawn; whole = whole; noted = noted; written = written; asked = size_asked; asks = asks }

pub returns-in_ok-plan_alone-in-Some : goal.returns-in_ok-plan_alone-in-Some
returns-in_ok-plan_alone-in-Some g c =
    let found = found_of c.args.words.now in
    let races = subst (λ text. IsFlag text c.is_set-races.result) (one_text-rows found (codes "races")) c.is_set-races.ensures in
    let tree = subst (λ text. IsFlag text c.is_set-tree.result) (one_text-rows found (codes "tree")) c.is_set-tree.ensures in
    let all = subst (λ text. IsFlag text c.is_set-all.result) (one_text-rows found (codes "all")) c.is_set-all.ensures in
    let lint = subst (λ text. IsFlag text c.is_set-lint.result) (one_text-rows found (codes "lint")) c.is_set-lint.ensures in
    let form = subst (λ text. IsListForm text c.list_form_in-form.result) (first_value-rows found (codes "report")) c.list_form_in-form.ensures in
    let request = c.plan_request.result in
    let asks = asks-weaker (rows_of found) _ (λ task files. (task ≡ c.in-Some.task) × IsPlanAlone (rows_of found) files) (λ task files is. (is.0, subst (IsPlanAlone (rows_of found)) (sym is.1) c.in_ok-plan_alone-in-Some.ensures)) request c.plan_request.ensures in
    asked (rows_of found) _ _ _ _ _ _ request races tree all lint form c.size_in.ensures (subst (λ task. AsksTask (rows_of found) task request) c.in-Some.ensures asks)

pub returns-in-None : goal.returns-in-None
returns-in-None g c =
    let found = found_of c.args.words.now in
    let races = subst (λ text. IsFlag text c.is_set-races.result) (one_text-rows found (codes "races")) c.is_set-races.ensures in
    let tree = subst (λ text. IsFlag text c.is_set-tree.result) (one_text-rows found (codes "tree")) c.is_set-tree.ensures in
    let all = subst (λ text. IsFlag text c.is_set-all.result) (one_text-rows found (codes "all")) c.is_set-all.ensures in
    let lint = subst (λ text. IsFlag text c.is_set-lint.result) (one_text-rows found (codes "lint")) c.is_set-lint.ensures in
    let form = subst (λ text. IsListForm text c.list_form_in-form.result) (first_value-rows found (codes "report")) c.list_form_in-form.ensures in
    asked (rows_of found) _ _ _ _ _ _ c.mistake.result races tree all lint form c.size_in.ensures
    (subst (λ task. AsksTask (rows_of found) task c.mistake.result) c.in-None.ensures c.mistake.ensures)
