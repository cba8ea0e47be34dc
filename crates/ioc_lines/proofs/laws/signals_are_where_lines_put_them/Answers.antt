use Rattle.std.proofs.Common.{◌≡◌, ℕ, List, [], ◌∷◌, map, Bool, Result, Ok, Err, Some, refl, sym, subst}
use Rattle.std.specs.Prelude.{IfOk, IsOkAnd}
use Rattle.res_base.specs.Lists.{Pairwise}
use Rattle.res_model.specs.declared.project.Signal.{Signal}
use Rattle.res_model.specs.declared.table.TableParts.{TableParts}
use Rattle.ioc_text.specs.declared.line.Line.{Line}
use Rattle.ioc_project.specs.Project.{is_taken, signals_after}
use Rattle.ioc_project.specs.declared.fault.ProjectFault.{ProjectFault}
use Rattle.ioc_lines.specs.Standing.{HomesApart, StandAll}
use Rattle.ioc_lines.proofs.SignalLemmas.{AreFree, all_put, all_stood}
use Rattle.ioc_lines.proofs.laws.signals_are_where_lines_put_them.Goals as goal

free : (ps : List (ℕ × List ℕ)) → AreFree [] ps
unfolding is_taken
free [] = tt
free (p ∷ ps) = (refl, free ps)

stood : (t : TableParts) (ioc : List Line) (kept : Bool) (lines : List Line) (r : Result (List Signal) ProjectFault) → signals_after t ioc kept [] lines ≡ r → IfOk r (λ ss. StandAll t ioc kept (map (λ (l : Line). l.value) lines) ss × Pairwise HomesApart ss)
stood t ioc kept lines (Err fault) e = tt
stood t ioc kept lines (Ok ss) e = let s = all_stood t ioc kept lines [] ss tt e in (subst (λ x. StandAll t ioc kept (map (λ (l : Line). l.value) lines) x) (sym s.is) s.stand, s.apart)

pub returns-clause-put : goal.returns-clause-put
returns-clause-put c = λ t ioc kept lines ps h d. let f = all_put t ioc kept lines [] ps h (free ps) d in rw f.reads (f.names, f.homes)

pub returns-clause-stood : goal.returns-clause-stood
returns-clause-stood c = λ t ioc kept lines. stood t ioc kept lines (signals_after t ioc kept [] lines) refl
