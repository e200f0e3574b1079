-- How the code has the phases of a figure, in the words of a machine.
use Rattle.std.specs.Prelude.{ℕ, List}
use Rattle.sip_standard.specs.Figure.{Figure}
use Rattle.sip_standard.specs.Told.{Told}
use Rattle.sip_phases.specs.inner.Coded.{Coded, IsCoded, HasPhases}

-- phases that a figure has in the code are the phases of a machine whose idle and ended phase are theirs
-- c is how the code has the phases of the figure f
pub has_phases : {X M : Type 0} {f : Figure X} {told : X → Told (List ℕ)} {c : Coded X} → IsCoded f told c → HasPhases f c.seen c.names c.InRange (λ (m : M). c.idle) (λ (m : M). c.ended)
has_phases is =
    record {
      is_figure = is.is_figure;
      apart = is.apart;
      by_names = is.by_names;
      window_same = is.window_same;
      closes_same = is.closes_same;
      -- idle and ended are the same for each machine
      idle_is = λ m. is.idle_is;
      ended_is = λ m. is.ended_is;
      idle_fits = λ m. is.idle_fits;
      ended_fits = λ m. is.ended_fits;
    }
