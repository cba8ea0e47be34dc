-- The flags that an answer names come once.
use Rattle.std.proofs.Common.{◌≡◌, ℕ, ◌%◌, ◌/◌, ◌^◌, Bool, true, false, ◌&&◌, ◌||◌, cond, eqb, refl, ap, ◌∙◌}
use Rattle.reg_machine.specs.declared.op.Answer.{Answer}
use Rattle.reg_machine.specs.declared.state.State.{State}
use Rattle.reg_machine.specs.Step.{flags, hse_after, over_after, switched_after}

or_again : (b x : Bool) → ((b || x) || x) ≡ (b || x)
or_again true x = refl
or_again false true = refl
or_again false false = refl

cond_again : (b : Bool) (x y : ℕ) → cond b x (cond b x y) ≡ cond b x y
cond_again true x y = refl
cond_again false x y = refl

pll_again : (p y on : Bool) (s : ℕ) (h k : Bool) → k ≡ h → ((p || (y && (on && cond (eqb s 1) h true))) || (y && (on && cond (eqb s 1) k true))) ≡ (p || (y && (on && cond (eqb s 1) h true)))
pll_again p y on s h k e = ap (λ b. (p || (y && (on && cond (eqb s 1) h true))) || (y && (on && cond (eqb s 1) b true))) e ∙ or_again p (y && (on && cond (eqb s 1) h true))

switch_again : (p y on h k : Bool) → k ≡ h → ((p || (y && (on && h))) || (y && (on && k))) ≡ (p || (y && (on && h)))
switch_again p y on h k e = ap (λ b. (p || (y && (on && h))) || (y && (on && b))) e ∙ or_again p (y && (on && h))

pub flags_again : (a : Answer) (s : State) → flags a (flags a s) ≡ flags a s
flags_again a s =
    let hse : hse_after a (flags a s) ≡ hse_after a s = or_again s.hse_ready (a.hse && eqb (s.cr / 2 ^ 16 % 2) 1) in
    let pll = pll_again s.pll_ready a.pll (eqb (s.cr / 2 ^ 24 % 2) 1) (s.pllcfgr / 2 ^ 22 % 2) (hse_after a s) (hse_after a (flags a s)) hse in
    let over : over_after a (flags a s) ≡ over_after a s = or_again s.over_ready (a.over && (eqb (s.pwr_cr / 2 ^ 16 % 2) 1 && eqb (s.cr / 2 ^ 24 % 2) 1)) in
    let switched = switch_again s.over_switched a.over_switch (eqb (s.pwr_cr / 2 ^ 17 % 2) 1) (over_after a s) (over_after a (flags a s)) over in
    ap (λ b. record (flags a (flags a s)) { hse_ready = b }) hse
    ∙ ap (λ b. record (flags a (flags a s)) { hse_ready = hse_after a s; pll_ready = b }) pll
    ∙ ap (λ n. record (flags a s) { latency = n; source = cond a.switch (s.cfgr % 4) (cond a.switch (s.cfgr % 4) s.source); over_ready = over_after a (flags a s); over_switched = switched_after a (flags a s) }) (cond_again a.latency (s.acr % 8) s.latency)
    ∙ ap (λ n. record (flags a s) { source = n; over_ready = over_after a (flags a s); over_switched = switched_after a (flags a s) }) (cond_again a.switch (s.cfgr % 4) s.source)
    ∙ ap (λ b. record (flags a s) { over_ready = b; over_switched = switched_after a (flags a s) }) over
    ∙ ap (λ b. record (flags a s) { over_switched = b }) switched
