-- The whole table, from its last steps.
use Rattle.std.proofs.Common.{◌≡◌, ℕ, List, Option, Result, Ok, Err, ap, sym, subst, ◌∙◌}
use Rattle.std.specs.Prelude.{codes}
use Rattle.res_model.specs.Steps.{◌>>=◌}
use Rattle.table_members.specs.Forms.{top, number_within, list, distinct_text, text}
use Rattle.mcu_tables.specs.Table.{pin, signal, hse_names, ip, clock, all_limits, supply, defaults, legal, table}
use Rattle.serde_json.specs.Data.{Data}
use Rattle.table_members.specs.Places.{Reads}
use Rattle.table_members.specs.declared.place.Flaw.{Flaw}
use Rattle.refusal.specs.declared.refusal.Refusal.{Refusal}
use Rattle.refusal.specs.declared.refusal.Refusal.TheVariants.{Fault, OutOfMemory}
use Rattle.table_members.specs.declared.fault.TableFault.{TableFault}
use Rattle.res_model.specs.declared.table.Pin.{Pin}
use Rattle.res_model.specs.declared.table.TableSignal.{TableSignal}
use Rattle.res_model.specs.declared.table.Ip.{Ip}
use Rattle.res_model.specs.declared.table.Domains.{Domains}
use Rattle.res_model.specs.declared.table.Bounds.{Bounds}
use Rattle.res_model.specs.declared.table.Scale.{Scale}
use Rattle.res_model.specs.declared.table.FlashRange.{FlashRange}
use Rattle.res_model.specs.declared.table.Over.{Over}

pub step : {A B : Type 0} (r : Result A TableFault) (x : A) (f : A → Result B TableFault) → r ≡ Ok x → (r >>= f) ≡ f x
step r x f e = ap (λ (q : Result _ TableFault). q >>= f) e

pub table_ends : (d : Data) (v : ℕ) (names : List (List ℕ)) (parcel : List ℕ) (pins : List Pin) (signals : List TableSignal) (hse : List ℕ × List ℕ) (ips : List Ip) (c : Domains) (l : Bounds × Option Over) (power : List Scale × List FlashRange) (seen : List Pin) (vos : List ℕ)
    → seen ≡ pins → vos ≡ c.vos
    → top (number_within 1 2) (codes "version") d ≡ Ok v
    → top (list 1 64 distinct_text) (codes "names") d ≡ Ok names
    → top text (codes "package") d ≡ Ok parcel
    → top (list 0 144 pin) (codes "pins") d ≡ Ok pins
    → top (list 0 2000 (signal seen)) (codes "signals") d ≡ Ok signals
    → hse_names d ≡ Ok hse
    → top (list 0 64 ip) (codes "ips") d ≡ Ok ips
    → clock v d ≡ Ok c
    → all_limits v d ≡ Ok l
    → supply vos d ≡ Ok power
    → table d ≡ (defaults c d >>= λ w. legal (record { version = v; names = names; «package» = parcel; pins = pins; signals = signals; hse_in = hse.0; hse_out = hse.1; ips = ips; clock = c; limits = l.0; over = l.1; scales = power.0; flash = power.1; defaults = w.0; hse_hz = w.1 }))
unfolding table
table_ends d v names parcel pins signals hse ips c l power seen vos same_pins same_vos e1 e2 e3 e4 e5 e6 e7 e8 e9 e10 =
    step (top (number_within 1 2) (codes "version") d) v _ e1
    ∙ step (top (list 1 64 distinct_text) (codes "names") d) names _ e2
    ∙ step (top text (codes "package") d) parcel _ e3
    ∙ step (top (list 0 144 pin) (codes "pins") d) pins _ e4
    ∙ step (top (list 0 2000 (signal pins)) (codes "signals") d) signals _ (subst (λ (ps : List Pin). top (list 0 2000 (signal ps)) (codes "signals") d ≡ Ok signals) same_pins e5)
    ∙ step (hse_names d) hse _ e6
    ∙ step (top (list 0 64 ip) (codes "ips") d) ips _ e7
    ∙ step (clock v d) c _ e8
    ∙ step (all_limits v d) l _ e9
    ∙ step (supply c.vos d) power _ (subst (λ (ns : List ℕ). supply ns d ≡ Ok power) same_vos e10)

-- a refusal of a step is that of the whole
pub refused_reads : {A B C : Type 0} (e : Refusal Flaw) (seen : A → C) (read : Result B (Refusal Flaw)) (r : Result C TableFault) (f : C → Result B TableFault) → read ≡ Err e → Reads seen (Err e) r → Reads (λ (x : B). x) read (r >>= f)
refused_reads {A} {B} {C} (Fault flaw) seen read r f is h = subst (λ (q : Result B (Refusal Flaw)). Reads (λ (x : B). x) q (r >>= f)) (sym is) (ap (λ (q : Result C TableFault). q >>= f) h)
refused_reads {A} {B} {C} OutOfMemory seen read r f is h = subst (λ (q : Result B (Refusal Flaw)). Reads (λ (x : B). x) q (r >>= f)) (sym is) tt
