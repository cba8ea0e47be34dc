-- What borrowed values of the clock variables say.
use Rattle.clock_limits.specs.Ranges.{Allowed}
use Rattle.clock_limits.specs.declared.runs.Runs.{Runs}

abbrev pub seen : Runs → Allowed
seen r = record {
  src = r.src.now;
  psrc = r.psrc.now;
  hpre = r.hpre.now;
  p = r.p.now;
  m = r.m.now;
  n = r.n.now;
  q = r.q.now;
  ppre1 = r.ppre1.now;
  ppre2 = r.ppre2.now;
  vos = r.vos.now;
}
