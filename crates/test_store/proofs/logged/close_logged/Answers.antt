use Rattle.ext_closing.proofs.Logging.{logged_by}
use Rattle.test_store.proofs.logged.close_logged.Goals as goal

pub returns-clause-logged : goal.returns-clause-logged
returns-clause-logged g c =
    logged_by g.V.StoreValue.is_closeable _ (λ log. log.numbers.items) (λ before number value done after given. given) c.args.store.now c.args.closer c.args.lanes.now c.args.log.now c.close.result
    c.close.new.lanes c.close.new.action c.close.ensures.happened

pub returns-clause-nothing : goal.returns-clause-nothing
returns-clause-nothing g c = c.close.ensures.happened.not_called
