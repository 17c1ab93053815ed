use Rattle.std.proofs.Common.{inl, inr}
use Rattle.ext_plan_parallel.proofs.steps.computes.compute_made.Goals as goal

pub returns-in-Computed-clause-answer : goal.returns-in-Computed-clause-answer
returns-in-Computed-clause-answer g c = elim c.in-Computed.ensures.answer [ inl named ↦ inl named | inr refused ↦ absurd (cc refused.2) ]

pub returns-in-Found-clause-answer : goal.returns-in-Found-clause-answer
returns-in-Found-clause-answer g c = elim c.in-Found.ensures.answer [ inl named ↦ inl named | inr refused ↦ absurd (cc refused.2) ]

pub returns-in-Failed-clause-answer : goal.returns-in-Failed-clause-answer
returns-in-Failed-clause-answer g c = elim c.in-Failed.ensures.answer [ inl named ↦ inl named | inr refused ↦ absurd (cc refused.2) ]

pub returns-in-FaultKept-clause-answer : goal.returns-in-FaultKept-clause-answer
returns-in-FaultKept-clause-answer g c = elim c.in-FaultKept.ensures.answer [ inl named ↦ inl named | inr refused ↦ absurd (cc refused.2) ]

pub returns-in-FaultUnkept-clause-answer : goal.returns-in-FaultUnkept-clause-answer
returns-in-FaultUnkept-clause-answer g c = elim c.in-FaultUnkept.ensures.answer [ inl named ↦ inl named | inr refused ↦ absurd (cc refused.2) ]

pub returns-in-FaultStands-clause-answer : goal.returns-in-FaultStands-clause-answer
returns-in-FaultStands-clause-answer g c = elim c.in-FaultStands.ensures.answer [ inl named ↦ inl named | inr refused ↦ absurd (cc refused.2) ]

pub returns-in-Unkept-clause-answer : goal.returns-in-Unkept-clause-answer
returns-in-Unkept-clause-answer g c = elim c.in-Unkept.ensures.answer [ inl named ↦ inl named | inr refused ↦ absurd (cc refused.2) ]

pub returns-in-Computed-clause-placed : goal.returns-in-Computed-clause-placed
returns-in-Computed-clause-placed g c = c.in-Computed.ensures.placed

pub returns-in-Found-clause-placed : goal.returns-in-Found-clause-placed
returns-in-Found-clause-placed g c = c.in-Found.ensures.placed

pub returns-in-Failed-clause-placed : goal.returns-in-Failed-clause-placed
returns-in-Failed-clause-placed g c = c.in-Failed.ensures.placed

pub returns-in-FaultKept-clause-placed : goal.returns-in-FaultKept-clause-placed
returns-in-FaultKept-clause-placed g c = c.in-FaultKept.ensures.placed

pub returns-in-FaultUnkept-clause-placed : goal.returns-in-FaultUnkept-clause-placed
returns-in-FaultUnkept-clause-placed g c = c.in-FaultUnkept.ensures.placed

pub returns-in-FaultStands-clause-placed : goal.returns-in-FaultStands-clause-placed
returns-in-FaultStands-clause-placed g c = c.in-FaultStands.ensures.placed

pub returns-in-Unkept-clause-placed : goal.returns-in-Unkept-clause-placed
returns-in-Unkept-clause-placed g c = c.in-Unkept.ensures.placed
