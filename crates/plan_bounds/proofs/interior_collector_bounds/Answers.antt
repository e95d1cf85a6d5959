-- `plan_bounds::interior_collector_bounds` meets its contract. Assumes nothing.
use Rattle.plan_bounds.proofs.Bounding as laws
use Rattle.plan_bounds.proofs.interior_collector_bounds.Goals as goal

pub returns-then-r-le1 : goal.returns-then-r-le1
returns-then-r-le1 c =
    let a = c.args in
    λ b given points starts counts t. laws.bounds_narrow b given a.r.bundle a.between.lower a.between.upper c.if-r-le1.true

pub returns-then-r-le1-2 : goal.returns-then-r-le1-2
returns-then-r-le1-2 c =
    let a = c.args in
    λ b given points starts counts t. laws.bounds_few b given a.r.bundle a.between.lower a.between.upper c.if-r-le1.false c.if-r-le1-2.true

pub returns-in-None : goal.returns-in-None
returns-in-None c =
    let a = c.args in
    λ b given points starts counts t.
    laws.bounds_none b given a.r.bundle a.between.lower a.between.upper a.r.reached c.if-r-le1.false c.if-r-le1-2.false t.reached_is c.in-None.is

pub returns-in-At : goal.returns-in-At
returns-in-At c =
    let a = c.args in
    λ b given points starts counts t.
    laws.bounds_some b given a.r.bundle a.between.lower a.between.upper a.r.reached a.r.endpoint a.rail a.pitch c.in-At.d c.span_of.result
    c.if-r-le1.false c.if-r-le1-2.false t.reached_is c.in-At.is t.endpoint_is t.rail_is t.pitch_is c.span_of.ensures
