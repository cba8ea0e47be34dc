-- What the clock tree needs to know of a project is the same where its signals stay elsewhere.
use Rattle.std.proofs.Common.{◌≡◌, ℕ, List, [], ◌∷◌, Bool, ◌&&◌, ◌||◌, cond, refl, ap, ◌∙◌}
use mathlib.Core.Path.{fun_ext}
use Rattle.std.specs.Prelude.{max, not}
use Rattle.std.specs.List.{list_any}
use Rattle.std.specs.Str.{bytes_eq}
use Rattle.res_model.specs.Clock.{belongs, facts_of, greatest_floor, has_mark, has_signal, is_exact, is_in_use, is_most, needs_exact, needs_most}
use Rattle.res_model.specs.declared.clock.Facts.{Facts}
use Rattle.res_model.specs.declared.opts.Opts.{Opts}
use Rattle.res_model.specs.declared.project.Project.{Project}
use Rattle.res_model.specs.declared.project.Signal.{Signal}
use Rattle.res_model.specs.declared.table.Ip.{Ip}
use Rattle.res_model.specs.declared.table.PinUse.{PinUse}
use Rattle.res_model.specs.declared.table.TableParts.{TableParts}
use Rattle.res_model.specs.declared.table.TableSignal.{TableSignal}
use Rattle.board_fit.specs.Fixed.{all_settled, fixed}

names_kept : (name : List ℕ) (ss : List Signal) (us : List PinUse) → list_any (λ (s : Signal). bytes_eq s.name name) (all_settled ss us) ≡ list_any (λ (s : Signal). bytes_eq s.name name) ss
names_kept name [] us = refl
names_kept name (s ∷ ss) [] = refl
names_kept name (s ∷ ss) (u ∷ us) = ap (λ (b : Bool). bytes_eq s.name name || b) (names_kept name ss us)

-- facts from their parts
abbrev made : Opts → ℕ → Bool → Bool → Bool → Bool → ℕ → Facts
made opts hse has_in has_out exact most floor = record {
  hse_hz = hse;
  osc_in = has_in;
  bypass = has_in && not has_out;
  need48 = exact || most;
  exact48 = exact;
  most48 = most;
  floor = floor;
  vdd = opts.vdd;
  hclk = opts.hclk;
  pclk1 = opts.pclk1;
  pclk2 = opts.pclk2;
}

same_facts : (opts : Opts) (hse : ℕ) (i j o q e g m n : Bool) (x y : ℕ) → i ≡ j → o ≡ q → e ≡ g → m ≡ n → x ≡ y → made opts hse i o e m x ≡ made opts hse j q g n y
same_facts opts hse i j o q e g m n x y a b c d f =
    ap (λ (z : Bool). made opts hse z o e m x) a
    ∙ ap (λ (z : Bool). made opts hse j z e m x) b
    ∙ ap (λ (z : Bool). made opts hse j q z m x) c
    ∙ ap (λ (z : Bool). made opts hse j q g z x) d
    ∙ ap (λ (z : ℕ). made opts hse j q g n z) f

module _ (t : TableParts) (p : Project) (us : List PinUse) where
  signals_kept : has_signal (fixed p us) ≡ has_signal p
  unfolding fixed
  signals_kept = fun_ext (λ (name : List ℕ). names_kept name p.signals us)

  in_use : (ip : Ip) → is_in_use t (fixed p us) ip ≡ is_in_use t p ip
  unfolding is_in_use fixed
  in_use ip =
      ap (λ (has : List ℕ → Bool). list_any (λ (s : TableSignal). belongs s.ip ip.name && has s.name) t.signals || list_any (has_mark p) ip.marks) signals_kept

  uses_kept : is_in_use t (fixed p us) ≡ is_in_use t p
  uses_kept = fun_ext in_use

  floors : (ips : List Ip) → greatest_floor t (fixed p us) ips ≡ greatest_floor t p ips
  floors [] = refl
  floors (ip ∷ ips) =
      ap (λ (b : Bool). max (cond b ip.floor 0) (greatest_floor t (fixed p us) ips)) (in_use ip)
      ∙ ap (λ (n : ℕ). max (cond (is_in_use t p ip) ip.floor 0) n) (floors ips)

  exact : needs_exact t (fixed p us) ≡ needs_exact t p
  unfolding needs_exact
  exact = ap (λ (used : Ip → Bool). list_any (λ (ip : Ip). is_exact ip.clock48 && used ip) t.ips) uses_kept

  mosts : needs_most t (fixed p us) ≡ needs_most t p
  unfolding needs_most
  mosts = ap (λ (used : Ip → Bool). list_any (λ (ip : Ip). is_most ip.clock48 && used ip) t.ips) uses_kept

  pub facts_kept : (opts : Opts) → facts_of t (fixed p us) opts ≡ facts_of t p opts
  unfolding facts_of fixed
  facts_kept opts =
      let has_in = ap (λ (has : List ℕ → Bool). has t.hse_in) signals_kept in
      let has_out = ap (λ (has : List ℕ → Bool). has t.hse_out) signals_kept in
      same_facts opts p.hse_hz (has_signal (fixed p us) t.hse_in) (has_signal p t.hse_in) (has_signal (fixed p us) t.hse_out) (has_signal p t.hse_out) (needs_exact t (fixed p us)) (needs_exact t p)
      (needs_most t (fixed p us)) (needs_most t p) (greatest_floor t (fixed p us) t.ips) (greatest_floor t p t.ips) has_in has_out exact mosts (floors t.ips)
