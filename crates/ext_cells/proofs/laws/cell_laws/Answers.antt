use Rattle.ext_cells.proofs.WordTable.{follows_reply, follows_event}
use Rattle.ext_cells.proofs.Drawn.{drawn_once, from_one}
use Rattle.ext_cells.proofs.laws.cell_laws.Goals as goal

pub returns-clause-table : goal.returns-clause-table
returns-clause-table c limits h lane cell act state number version few legal on fits is = follows_reply limits h lane cell act state number version few legal on fits is

pub returns-clause-next_words : goal.returns-clause-next_words
returns-clause-next_words c limits h lane cell act state number version few legal on fits is = follows_event limits h lane cell act state number version few legal on fits is

pub returns-clause-drawn_once : goal.returns-clause-drawn_once
returns-clause-drawn_once c limits h legal = drawn_once {limits = limits} h legal

pub returns-clause-from_one : goal.returns-clause-from_one
returns-clause-from_one c limits h number legal there = from_one {limits = limits} h number legal there
