use Rattle.ext_locks.proofs.Histories.{lawful, same_held, none_held, free_unwritten, unmade, nothing_yet}
use Rattle.ext_history.proofs.Legal.{legal_empty, legal_begun}
use Rattle.ext_locks.proofs.Fronts.{calls_then, calls_none}
use Rattle.ext_locks.proofs.OneSet.{one_merged}
use Rattle.ext_locks.specs.History.{IsAllowed}
use Rattle.ext_locks.proofs.laws.lock_laws.Goals as goal

pub returns-clause-lawful : goal.returns-clause-lawful
returns-clause-lawful c = lawful

pub returns-clause-own : goal.returns-clause-own
returns-clause-own c = λ h later lock mode lane same. same_held later h lock mode lane same

pub returns-clause-free : goal.returns-clause-free
returns-clause-free c = free_unwritten

pub returns-clause-empty : goal.returns-clause-empty
returns-clause-empty c = λ lanes. legal_empty (IsAllowed lanes)

pub returns-clause-fresh : goal.returns-clause-fresh
returns-clause-fresh c = nothing_yet

pub returns-clause-only_lanes : goal.returns-clause-only_lanes
returns-clause-only_lanes c = λ lanes h legal lane many lock mode. none_held h lock mode lane (unmade lanes h legal lane many)

pub returns-clause-beginnings : goal.returns-clause-beginnings
returns-clause-beginnings c = λ lanes f h begins legal. legal_begun f h begins legal

pub returns-clause-compose : goal.returns-clause-compose
returns-clause-compose c = calls_then

pub returns-clause-none : goal.returns-clause-none
returns-clause-none c = calls_none

pub returns-clause-one_set : goal.returns-clause-one_set
returns-clause-one_set c = λ names requests set other apart one two. one_merged names requests apart set other one two
