-- Of a number that was read, .0 is the number, .1 says that it stands after its word, and .2 that the code keeps it, `cut` at 10^15.
-- Of the tolerances, .0 and .1 are the numbers, .2 says that they stand there, and .3 and .4 that the code keeps them.
-- `λ i. f (e i)`: by the equation e, f of its left side is equal to f of its right side.
use Rattle.sip_standard.specs.Times.{Times}
use Rattle.sip_standard.specs.declared.rules.Rules.TheVariants.{R6026}
use Rattle.std.proofs.Common.{refl}
use Rattle.sip_log.specs.inner.Header.{TimesLine}
use Rattle.sip_log.proofs.headers.HeaderLemmas.{t2-after, t4-after, tolerances-after, times-after, times-read}
use Rattle.sip_log.proofs.header.read_times.Goals as goal

-- where the line does not begin with `t1 ` and a number, it tells no times
pub returns-in_err-t1 : goal.returns-in_err-t1
returns-in_err-t1 c = rw c.from_residual.ensures (λ p is within. c.in_err-t1.ensures _ _ is.t1_is)

-- where ` t2 ` and a number do not follow, the line tells no times
pub returns-in_err-t2 : goal.returns-in_err-t2
returns-in_err-t2 c =
    let t1 = c.in_ok-t1.ensures in
    rw c.from_residual-in_err-t2.ensures (λ p is within. c.in_err-t2.ensures _ _ (t2-after c.args.format c.args.line.now p is t1.0 _ t1.1))

-- where no number follows ` t4 `, the line tells no times
pub returns-in_err-t4 : goal.returns-in_err-t4
returns-in_err-t4 c =
    let t1 = c.in_ok-t1.ensures in
    let t2 = c.in_ok-t2.ensures in
    rw c.from_residual-in_err-t4.ensures
    (λ p is within. c.in_err-t4.ensures _ _ (t4-after c.args.format c.args.line.now p is t1.0 _ t1.1 t2.0 _ t2.1))

-- where no tolerances follow, the line tells no times
pub returns-in_err-early : goal.returns-in_err-early
returns-in_err-early c =
    -- the three times before them were read, each as what follows the one before, so the tolerances follow t4
    let t1 = c.in_ok-t1.ensures in
    let t2 = c.in_ok-t2.ensures in
    let t4 = c.in_ok-t4.ensures in
    rw c.from_residual-in_err-early.ensures
    (λ p is within.
    c.in_err-early.ensures _ _ (tolerances-after c.args.format c.args.line.now p is t1.0 _ t1.1 t2.0 _ t2.1 t4.0 _ t4.1))

-- where t1, t2, t4 and the tolerances were read, the line tells the times that have these
pub returns : goal.returns
returns c =
    let format = c.args.format in
    let line = c.args.line.now in
    let t1 = c.in_ok-t1.ensures in
    let t2 = c.in_ok-t2.ensures in
    let t4 = c.in_ok-t4.ensures in
    let both = c.in_ok-early.ensures in
    -- the times are those of the line, with the rules of RFC 6026
    let n : Times = record { t1 = t1.0; t2 = t2.0; t4 = t4.0; early = both.0; late = both.1; rules = R6026 } in
    let is : TimesLine format line n = record {
      -- after each number stands what its reading left
      rest1 = c.in_ok-t1.rest.now;
      rest2 = c.in_ok-t2.rest.now;
      rest3 = c.in_ok-t4.rest.now;
      -- each number is the one that was read
      t1_is = t1.1;
      t2_is = t2.1;
      t4_is = t4.1;
      tolerances = both.2;
      rules = refl;
    } in
    -- where the times are within their limits they are read, and where they are not, the line tells no times within them
    times-read format line n _ c.with_tolerances.result is
    (λ p other. times-after format line p other t1.0 _ t1.1 t2.0 _ t2.1 t4.0 _ t4.1 both.0 both.1 both.2)
    -- the times that the code makes have each number as the code keeps it
    (λ i. record { t1 = t1.2 i; t2 = t2.2 i; t4 = t4.2 i; early = both.3 i; late = both.4 i; rules = R6026 })
    c.with_tolerances.ensures
