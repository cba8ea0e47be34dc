-- The lines of ops: one op has each of them, and each is a line.
use Rattle.std.proofs.Common.{◌≡◌, ◌≢◌, ℕ, zero, suc, ◌+◌, ◌/◌, ◌%◌, ◌^◌, ◌<◌, ◌≤◌, List, [], ◌∷◌, ◌++◌, Bool, true, false, cond, eqb, get_or, take, length, inl, inr, refl, sym, ap, ◌∙◌, append_assoc, arith}
use Rattle.std.specs.Prelude.{decimal, map}
use Rattle.std.specs.List.{concat}
use Rattle.std.proofs.lemmas.Bool.Decides.{nat_tests}
use Rattle.std.proofs.lemmas.List.{append_cancel_left, length-append}
use Rattle.res_base.specs.Lists.{Each}
use Rattle.res_base.proofs.SumLemmas.{bool_cases}
use Rattle.reg_map.specs.declared.register.Reg.{Reg}
use Rattle.reg_map.specs.Registers.{address, IsRegister}
use Rattle.reg_machine.specs.declared.op.Timeout.{Timeout}
use Rattle.reg_machine.specs.declared.op.Timeout.TheVariants as timeout
use Rattle.reg_machine.specs.declared.op.Op.{Op}
use Rattle.reg_machine.specs.declared.op.Op.TheVariants as op
use Rattle.c_print.specs.declared.part.Part.{Part}
use Rattle.c_print.specs.declared.part.Part.TheVariants as part
use Rattle.c_print.specs.Text.{part_text, digit, digits_1, halves, digits_2, digits_4, digits_8, hex, number_after, count, timeout_name, await_end, op_line, awaits_over, frame, last_lines, body_lines, c_lines, c_text_of}
use Rattle.c_print.specs.Reading.{FitsLine, onto_line, lines_of}
use Rattle.c_print.specs.Prefixes.{Below, IsCount}
use Rattle.c_print.proofs.PrefixLemmas.{TellsApart, after_both, both}
use Rattle.c_print.proofs.NumberLemmas.{HasNo, no_end, number_apart, count_apart}
use Rattle.c_print.proofs.RegisterLemmas.{register_after, register_apart}

clash : (a b : ℕ) → a ≡ b → eqb a b ≡ false → ⊥
clash a b e n = let t : eqb a b ≡ true = grind (arith, nat_tests) in let z : true ≡ false = sym t ∙ n in cc

-- ---- timeouts
name_at : ℕ → ℕ → Timeout
name_at c d = cond (eqb c 72) timeout.Hse (cond (eqb c 80) timeout.Pll (cond (eqb c 76) timeout.Latency (cond (eqb c 83) timeout.Switch (cond (eqb d 84) timeout.Over timeout.OverSwitch))))

name_back : (name : Timeout) (rest : List ℕ) → name_at (get_or (await_end name ++ rest) 9 0) (get_or (await_end name ++ rest) 14 0) ≡ name
unfolding name_at await_end timeout_name
name_back timeout.Hse rest = refl
name_back timeout.Pll rest = refl
name_back timeout.Latency rest = refl
name_back timeout.Switch rest = refl
name_back timeout.Over rest = refl
name_back timeout.OverSwitch rest = refl

abbrev pub IsAny : Timeout → Type 0
IsAny name = Unit {0}

pub await_end_apart : TellsApart await_end IsAny
await_end_apart x y xs ys fx fy e =
    let same : x ≡ y = sym (name_back x xs) ∙ ap (λ t. name_at (get_or t 9 0) (get_or t 14 0)) e ∙ name_back y ys in
    (same, append_cancel_left (await_end x) xs ys (e ∙ ap (λ n. await_end n ++ ys) (sym same)))

-- ---- the fifth byte of what a line begins with, and of what may follow its address
store_fifth : (n : ℕ) (t xs : List ℕ) → get_or ((number_after part.Store n ++ t) ++ xs) 4 0 ≡ 82
unfolding part_text
store_fifth n t xs = refl

load_fifth : (n : ℕ) (t xs : List ℕ) → get_or ((number_after part.Load n ++ t) ++ xs) 4 0 ≡ 40
unfolding part_text
load_fifth n t xs = refl

poll_fifth : (n : ℕ) (t xs : List ℕ) → get_or ((number_after part.Poll n ++ t) ++ xs) 4 0 ≡ 102
unfolding part_text
poll_fifth n t xs = refl

return_fifth : (xs : List ℕ) → get_or (part_text part.Return ++ xs) 4 0 ≡ 114
unfolding part_text
return_fifth xs = refl

gets_fifth : (n : ℕ) (t xs : List ℕ) → get_or ((number_after part.Gets n ++ t) ++ xs) 4 0 ≡ 48
unfolding part_text hex
gets_fifth n t xs = refl

gets_old_fifth : (n : ℕ) (t xs : List ℕ) → get_or ((number_after part.GetsOld n ++ t) ++ xs) 4 0 ≡ 40
unfolding part_text
gets_old_fifth n t xs = refl

abbrev fifth : List ℕ → ℕ
fifth t = get_or t 4 0

-- ---- one op has each line
-- what follows the address
abbrev pub write_rest : ℕ → List ℕ
write_rest v = number_after part.Gets v ++ part_text part.End

abbrev pub set_rest : ℕ → List ℕ
set_rest s = number_after part.Or s ++ part_text part.End

abbrev pub clear_rest : ℕ → ℕ → List ℕ
clear_rest c s = number_after part.ButNot c ++ set_rest s

abbrev pub modify_rest : Reg → ℕ → ℕ → List ℕ
modify_rest r c s = register_after part.GetsOld r ++ clear_rest c s

abbrev pub limit_rest : ℕ → Timeout → List ℕ
limit_rest n name = count n ++ await_end name

abbrev pub want_rest : ℕ → ℕ → Timeout → List ℕ
want_rest w n name = number_after part.IsNot w ++ (part_text part.AtMost ++ limit_rest n name)

abbrev pub await_rest : ℕ → ℕ → ℕ → Timeout → List ℕ
await_rest m w n name = number_after part.Under m ++ want_rest w n name

same_write : (r s : Reg) (v w : ℕ) (xs ys : List ℕ) → FitsLine (op.Write r v) → FitsLine (op.Write s w) → op_line (op.Write r v) ++ xs ≡ op_line (op.Write s w) ++ ys → (op.Write r v ≡ op.Write s w) × (xs ≡ ys)
same_write r s v w xs ys f g e =
    let a = both (register_after part.Store) IsRegister (register_apart part.Store) r s (write_rest v) (write_rest w) xs ys f.0 g.0 e in
    let b = both (number_after part.Gets) (Below (2 ^ 32)) (number_apart part.Gets) v w (part_text part.End) (part_text part.End) xs ys f.1 g.1 a.1 in
    (ap (λ k. op.Write k v) a.0 ∙ ap (op.Write s) b.0, append_cancel_left (part_text part.End) xs ys b.1)

same_modify : (r s : Reg) (c d t u : ℕ) (xs ys : List ℕ) → FitsLine (op.Modify r c t) → FitsLine (op.Modify s d u) → op_line (op.Modify r c t) ++ xs ≡ op_line (op.Modify s d u) ++ ys → (op.Modify r c t ≡ op.Modify s d u) × (xs ≡ ys)
same_modify r s c d t u xs ys f g e =
    let a = both (register_after part.Store) IsRegister (register_apart part.Store) r s (modify_rest r c t) (modify_rest s d u) xs ys f.0 g.0 e in
    let b = both (register_after part.GetsOld) IsRegister (register_apart part.GetsOld) r s (clear_rest c t) (clear_rest d u) xs ys f.0 g.0 a.1 in
    let k = both (number_after part.ButNot) (Below (2 ^ 32)) (number_apart part.ButNot) c d (set_rest t) (set_rest u) xs ys f.1 g.1 b.1 in
    let l = both (number_after part.Or) (Below (2 ^ 32)) (number_apart part.Or) t u (part_text part.End) (part_text part.End) xs ys f.2 g.2 k.1 in
    (ap (λ z. op.Modify z c t) a.0 ∙ ap (λ z. op.Modify s z t) k.0 ∙ ap (op.Modify s d) l.0, append_cancel_left (part_text part.End) xs ys l.1)

same_read : (r s : Reg) (xs ys : List ℕ) → FitsLine (op.Read r) → FitsLine (op.Read s) → op_line (op.Read r) ++ xs ≡ op_line (op.Read s) ++ ys → (op.Read r ≡ op.Read s) × (xs ≡ ys)
same_read r s xs ys f g e =
    let a = both (register_after part.Load) IsRegister (register_apart part.Load) r s (part_text part.LoadEnd) (part_text part.LoadEnd) xs ys f g e in
    (ap op.Read a.0, append_cancel_left (part_text part.LoadEnd) xs ys a.1)

same_await : (r s : Reg) (m k w v n l : ℕ) (a b : Timeout) (xs ys : List ℕ) → FitsLine (op.Await r m w n a) → FitsLine (op.Await s k v l b) → op_line (op.Await r m w n a) ++ xs ≡ op_line (op.Await s k v l b) ++ ys → (op.Await r m w n a ≡ op.Await s k v l b) × (xs ≡ ys)
same_await r s m k w v n l a b xs ys f g e =
    let p = both (register_after part.Poll) IsRegister (register_apart part.Poll) r s (await_rest m w n a) (await_rest k v l b) xs ys f.0 g.0 e in
    let q = both (number_after part.Under) (Below (2 ^ 32)) (number_apart part.Under) m k (want_rest w n a) (want_rest v l b) xs ys f.1 g.1 p.1 in
    let t = both (number_after part.IsNot) (Below (2 ^ 32)) (number_apart part.IsNot) w v (part_text part.AtMost ++ limit_rest n a) (part_text part.AtMost ++ limit_rest l b) xs ys f.2 g.2 q.1 in
    let c = both count IsCount count_apart n l (await_end a) (await_end b) xs ys (f.3, f.4) (g.3, g.4) (after_both (part_text part.AtMost) (limit_rest n a) (limit_rest l b) xs ys t.1) in
    let z = await_end_apart a b xs ys tt tt c.1 in
    (ap (λ h. op.Await h m w n a) p.0 ∙ ap (λ h. op.Await s h w n a) q.0 ∙ ap (λ h. op.Await s k h n a) t.0 ∙ ap (λ h. op.Await s k v h a) c.0 ∙ ap (op.Await s k v l) z.0, z.1)

write_or_modify : (r s : Reg) (v d u : ℕ) (xs ys : List ℕ) → FitsLine (op.Write r v) → FitsLine (op.Modify s d u) → op_line (op.Write r v) ++ xs ≡ op_line (op.Modify s d u) ++ ys → ⊥
write_or_modify r s v d u xs ys f g e =
    let a = both (register_after part.Store) IsRegister (register_apart part.Store) r s (write_rest v) (modify_rest s d u) xs ys f.0 g.0 e in
    clash 48 40 (sym (gets_fifth v (part_text part.End) xs) ∙ ap fifth a.1 ∙ gets_old_fifth (address s) (clear_rest d u) ys) refl

-- the fifth byte of an op's line
abbrev mark : Op → ℕ
mark (op.Write r v) = 82
mark (op.Modify r c s) = 82
mark (op.Read r) = 40
mark (op.Await r m w n name) = 102

mark_is : (o : Op) (xs : List ℕ) → fifth (op_line o ++ xs) ≡ mark o
mark_is (op.Write r v) xs = store_fifth (address r) (write_rest v) xs
mark_is (op.Modify r c s) xs = store_fifth (address r) (modify_rest r c s) xs
mark_is (op.Read r) xs = load_fifth (address r) (part_text part.LoadEnd) xs
mark_is (op.Await r m w n name) xs = poll_fifth (address r) (await_rest m w n name) xs

marks : (o p : Op) (xs ys : List ℕ) → op_line o ++ xs ≡ op_line p ++ ys → mark o ≡ mark p
marks o p xs ys e = sym (mark_is o xs) ∙ ap fifth e ∙ mark_is p ys

pub op_apart : TellsApart op_line FitsLine
op_apart (op.Write r v) (op.Write s w) xs ys f g e = same_write r s v w xs ys f g e
op_apart (op.Write r v) (op.Modify s d u) xs ys f g e = absurd (write_or_modify r s v d u xs ys f g e)
op_apart (op.Write r v) (op.Read s) xs ys f g e = absurd (clash 82 40 (marks (op.Write r v) (op.Read s) xs ys e) refl)
op_apart (op.Write r v) (op.Await s k w l b) xs ys f g e = absurd (clash 82 102 (marks (op.Write r v) (op.Await s k w l b) xs ys e) refl)
op_apart (op.Modify r c t) (op.Write s w) xs ys f g e = absurd (write_or_modify s r w c t ys xs g f (sym e))
op_apart (op.Modify r c t) (op.Modify s d u) xs ys f g e = same_modify r s c d t u xs ys f g e
op_apart (op.Modify r c t) (op.Read s) xs ys f g e = absurd (clash 82 40 (marks (op.Modify r c t) (op.Read s) xs ys e) refl)
op_apart (op.Modify r c t) (op.Await s k w l b) xs ys f g e = absurd (clash 82 102 (marks (op.Modify r c t) (op.Await s k w l b) xs ys e) refl)
op_apart (op.Read r) (op.Write s w) xs ys f g e = absurd (clash 40 82 (marks (op.Read r) (op.Write s w) xs ys e) refl)
op_apart (op.Read r) (op.Modify s d u) xs ys f g e = absurd (clash 40 82 (marks (op.Read r) (op.Modify s d u) xs ys e) refl)
op_apart (op.Read r) (op.Read s) xs ys f g e = same_read r s xs ys f g e
op_apart (op.Read r) (op.Await s k w l b) xs ys f g e = absurd (clash 40 102 (marks (op.Read r) (op.Await s k w l b) xs ys e) refl)
op_apart (op.Await r m w n a) (op.Write s v) xs ys f g e = absurd (clash 102 82 (marks (op.Await r m w n a) (op.Write s v) xs ys e) refl)
op_apart (op.Await r m w n a) (op.Modify s d u) xs ys f g e = absurd (clash 102 82 (marks (op.Await r m w n a) (op.Modify s d u) xs ys e) refl)
op_apart (op.Await r m w n a) (op.Read s) xs ys f g e = absurd (clash 102 40 (marks (op.Await r m w n a) (op.Read s) xs ys e) refl)
op_apart (op.Await r m w n a) (op.Await s k v l b) xs ys f g e = same_await r s m k w v n l a b xs ys f g e

-- an op's line is not the line behind them
pub not_return : (o : Op) → op_line o ≢ part_text part.Return
not_return o e = differs o (sym (mark_is o []) ∙ ap (λ t. fifth (t ++ [])) e ∙ return_fifth [])
  where
    differs : (o : Op) → mark o ≡ 114 → ⊥
    differs (op.Write r v) m = clash 82 114 m refl
    differs (op.Modify r c s) m = clash 82 114 m refl
    differs (op.Read r) m = clash 40 114 m refl
    differs (op.Await r a w n name) m = clash 102 114 m refl

-- ---- each is a line
-- no end stands in it
abbrev clean : List ℕ → Bool
clean [] = true
clean (c ∷ cs) = cond (eqb c 10) false (clean cs)

abbrev is_nil : List ℕ → Bool
is_nil [] = true
is_nil (c ∷ cs) = false

-- its last byte is its one end
abbrev is_line : List ℕ → Bool
is_line [] = false
is_line (c ∷ cs) = cond (eqb c 10) (is_nil cs) (is_line cs)

clean_append : (xs ys : List ℕ) → clean xs ≡ true → clean ys ≡ true → clean (xs ++ ys) ≡ true
clean_append [] ys h k = k
clean_append (x ∷ xs) ys h k = elim (bool_cases (eqb x 10)) [
  | inl e ↦ let z : false ≡ true = rw e at h in absurd cc
  | inr e ↦ let r : clean xs ≡ true = rw e at h in rw e (clean_append xs ys r k)
]

line_append : (xs ys : List ℕ) → clean xs ≡ true → is_line ys ≡ true → is_line (xs ++ ys) ≡ true
line_append [] ys h k = k
line_append (x ∷ xs) ys h k = elim (bool_cases (eqb x 10)) [
  | inl e ↦ let z : false ≡ true = rw e at h in absurd cc
  | inr e ↦ let r : clean xs ≡ true = rw e at h in rw e (line_append xs ys r k)
]

has_no : (xs : List ℕ) → HasNo 10 xs → clean xs ≡ true
has_no [] h = refl
has_no (x ∷ xs) h = rw h.0 (has_no xs h.1)

digit_high : (n : ℕ) → eqb (digit n) 10 ≡ false
unfolding digit
digit_high n = grind (arith, nat_tests)

digit_clean : (n : ℕ) → clean (digits_1 n) ≡ true
digit_clean n = let e = digit_high n in rw e refl

halves_clean : (base : ℕ) (spell : ℕ → List ℕ) → ((n : ℕ) → clean (spell n) ≡ true) → (n : ℕ) → clean (halves base spell n) ≡ true
halves_clean base spell h n = clean_append (spell (n / base)) (spell (n % base)) (h (n / base)) (h (n % base))

digits_2_clean : (n : ℕ) → clean (digits_2 n) ≡ true
unfolding digits_2
digits_2_clean n = halves_clean 16 digits_1 digit_clean n

digits_4_clean : (n : ℕ) → clean (digits_4 n) ≡ true
unfolding digits_4
digits_4_clean n = halves_clean 256 digits_2 digits_2_clean n

digits_8_clean : (n : ℕ) → clean (digits_8 n) ≡ true
unfolding digits_8
digits_8_clean n = halves_clean 65536 digits_4 digits_4_clean n

clean_0x : clean (part_text part.Hex) ≡ true
unfolding part_text
clean_0x = refl

clean_u : clean (part_text part.Unsigned) ≡ true
unfolding part_text
clean_u = refl

hex_clean : (n : ℕ) → clean (hex n) ≡ true
unfolding hex
hex_clean n = clean_append (part_text part.Hex) (digits_8 n ++ part_text part.Unsigned) clean_0x (clean_append (digits_8 n) (part_text part.Unsigned) (digits_8_clean n) clean_u)

number_clean : (p : Part) → clean (part_text p) ≡ true → (n : ℕ) → clean (number_after p n) ≡ true
number_clean p h n = clean_append (part_text p) (hex n) h (hex_clean n)

count_clean : (n : ℕ) → n < 2 ^ 64 → clean (count n) ≡ true
count_clean n h = clean_append (decimal n) (part_text part.Unsigned) (has_no (decimal n) (no_end n h)) clean_u

record CleanParts : Type 0 where
  store : clean (part_text part.Store) ≡ true
  load : clean (part_text part.Load) ≡ true
  poll : clean (part_text part.Poll) ≡ true
  gets : clean (part_text part.Gets) ≡ true
  gets_old : clean (part_text part.GetsOld) ≡ true
  but_not : clean (part_text part.ButNot) ≡ true
  or : clean (part_text part.Or) ≡ true
  under : clean (part_text part.Under) ≡ true
  is_not : clean (part_text part.IsNot) ≡ true
  at_most : clean (part_text part.AtMost) ≡ true
  end : is_line (part_text part.End) ≡ true
  load_end : is_line (part_text part.LoadEnd) ≡ true

parts : CleanParts
unfolding part_text
parts = record {
  store = refl;
  load = refl;
  poll = refl;
  gets = refl;
  gets_old = refl;
  but_not = refl;
  or = refl;
  under = refl;
  is_not = refl;
  at_most = refl;
  end = refl;
  load_end = refl;
}

await_end_line : (name : Timeout) → is_line (await_end name) ≡ true
unfolding await_end timeout_name
await_end_line timeout.Hse = refl
await_end_line timeout.Pll = refl
await_end_line timeout.Latency = refl
await_end_line timeout.Switch = refl
await_end_line timeout.Over = refl
await_end_line timeout.OverSwitch = refl

-- a word, and then the rest of a line
then_line : (p : Part) → clean (part_text p) ≡ true → (n : ℕ) (rest : List ℕ) → is_line rest ≡ true → is_line (number_after p n ++ rest) ≡ true
then_line p h n rest k = line_append (number_after p n) rest (number_clean p h n) k

abbrev pub IsLine : List ℕ → Type 0
IsLine l = is_line l ≡ true

op_is_line : (o : Op) → FitsLine o → IsLine (op_line o)
op_is_line (op.Write r v) f = then_line part.Store parts.store (address r) (write_rest v) (then_line part.Gets parts.gets v (part_text part.End) parts.end)
op_is_line (op.Modify r c s) f =
    then_line part.Store parts.store (address r) (modify_rest r c s) (then_line part.GetsOld parts.gets_old (address r) (clear_rest c s)
    (then_line part.ButNot parts.but_not c (set_rest s) (then_line part.Or parts.or s (part_text part.End) parts.end)))
op_is_line (op.Read r) f = then_line part.Load parts.load (address r) (part_text part.LoadEnd) parts.load_end
op_is_line (op.Await r m w n name) f =
    then_line part.Poll parts.poll (address r) (await_rest m w n name) (then_line part.Under parts.under m (want_rest w n name)
    (then_line part.IsNot parts.is_not w (part_text part.AtMost ++ limit_rest n name) (line_append (part_text part.AtMost) (limit_rest n name) parts.at_most
    (line_append (count n) (await_end name) (count_clean n (omega (arith, f.4))) (await_end_line name)))))

ops_are_lines : (ops : List Op) → Each FitsLine ops → Each IsLine (map op_line ops)
ops_are_lines [] f = tt
ops_are_lines (o ∷ os) f = (op_is_line o f.0, ops_are_lines os f.1)

frame_is_lines : (over : Bool) → Each IsLine (frame over)
unfolding part_text
frame_is_lines true = (refl, (refl, (refl, (refl, (refl, (refl, tt))))))
frame_is_lines false = (refl, (refl, (refl, (refl, (refl, (refl, tt))))))

return_is_line : IsLine (part_text part.Return)
unfolding part_text
return_is_line = refl

close_is_line : IsLine (part_text part.Close)
unfolding part_text
close_is_line = refl

-- ---- the lines of a text
line_then : (l rest : List ℕ) → IsLine l → lines_of (l ++ rest) ≡ l ∷ lines_of rest
line_then [] rest h = let z : false ≡ true = h in absurd cc
line_then (c ∷ cs) rest h = elim (bool_cases (eqb c 10)) [
  | inl e ↦ let last : is_nil cs ≡ true = rw e at h in let ten : c ≡ 10 = grind (arith, nat_tests) in rw e (alone cs c last ten)
  | inr e ↦ let more : is_line cs ≡ true = rw e at h in rw e (ap (onto_line c) (line_then cs rest more))
]
  where
    alone : (cs : List ℕ) (c : ℕ) → is_nil cs ≡ true → c ≡ 10 → (10 ∷ []) ∷ lines_of (cs ++ rest) ≡ (c ∷ cs) ∷ lines_of rest
    alone [] c n t = ap (λ x. (x ∷ []) ∷ lines_of rest) (sym t)
    alone (d ∷ ds) c n t = let z : false ≡ true = n in absurd cc

pub lines_then : (ls : List (List ℕ)) (rest : List ℕ) → Each IsLine ls → lines_of (concat ls ++ rest) ≡ ls ++ lines_of rest
lines_then [] rest h = refl
lines_then (l ∷ ls) rest h = ap lines_of (append_assoc l (concat ls) rest) ∙ line_then l (concat ls ++ rest) h.0 ∙ ap (λ ms. l ∷ ms) (lines_then ls rest h.1)

-- the lines joined are the text
pub joined : (text : List ℕ) → concat (lines_of text) ≡ text
joined [] = refl
joined (c ∷ cs) = elim (bool_cases (eqb c 10)) [
  | inl e ↦ let ten : c ≡ 10 = grind (arith, nat_tests) in rw e (ap (λ xs. 10 ∷ xs) (joined cs) ∙ ap (λ x. x ∷ cs) (sym ten))
  | inr e ↦ rw e (onto c (lines_of cs) ∙ ap (λ xs. c ∷ xs) (joined cs))
]
  where
    onto : (c : ℕ) (ls : List (List ℕ)) → concat (onto_line c ls) ≡ c ∷ concat ls
    onto c [] = refl
    onto c (l ∷ ls) = refl

pub concat_append : (xs ys : List (List ℕ)) → concat (xs ++ ys) ≡ concat xs ++ concat ys
concat_append [] ys = refl
concat_append (x ∷ xs) ys = ap (λ zs. x ++ zs) (concat_append xs ys) ∙ sym (append_assoc x (concat xs) (concat ys))

pub after_frame_lines : (over : Bool) (rest : List ℕ) → lines_of (concat (frame over) ++ rest) ≡ frame over ++ lines_of rest
after_frame_lines over rest = lines_then (frame over) rest (frame_is_lines over)

each_take : (P : List ℕ → Type 0) (n : ℕ) (xs : List (List ℕ)) → Each P xs → Each P (take n xs)
each_take P zero xs h = tt
each_take P (suc n) [] h = tt
each_take P (suc n) (x ∷ xs) h = (h.0, each_take P n xs h.1)

pub frame_prefix : (over : Bool) (n : ℕ) (rest : List ℕ) → lines_of (concat (take n (frame over)) ++ rest) ≡ take n (frame over) ++ lines_of rest
frame_prefix over n rest = lines_then (take n (frame over)) rest (each_take IsLine n (frame over) (frame_is_lines over))

pub ops_then_lines : (ops : List Op) (rest : List ℕ) → Each FitsLine ops → lines_of (concat (map op_line ops) ++ rest) ≡ map op_line ops ++ lines_of rest
ops_then_lines ops rest f = lines_then (map op_line ops) rest (ops_are_lines ops f)

pub return_then : (rest : List ℕ) → lines_of (part_text part.Return ++ rest) ≡ part_text part.Return ∷ lines_of rest
return_then rest = line_then (part_text part.Return) rest return_is_line

pub close_then : (rest : List ℕ) → lines_of (part_text part.Close ++ rest) ≡ part_text part.Close ∷ lines_of rest
close_then rest = line_then (part_text part.Close) rest close_is_line

last_text : lines_of (concat last_lines) ≡ last_lines
last_text = return_then (part_text part.Close ++ []) ∙ ap (λ ls. part_text part.Return ∷ ls) (close_then [])

-- the text, part by part
pub text_parts : (ops : List Op) → c_text_of ops ≡ concat (frame (awaits_over ops)) ++ (concat (map op_line ops) ++ concat last_lines)
unfolding c_text_of
text_parts ops = concat_append (frame (awaits_over ops)) (body_lines ops) ∙ ap (λ xs. concat (frame (awaits_over ops)) ++ xs) (concat_append (map op_line ops) last_lines)

pub text_lines : (ops : List Op) → Each FitsLine ops → lines_of (c_text_of ops) ≡ c_lines ops
text_lines ops f =
    let rest = concat (map op_line ops) ++ concat last_lines in
    ap lines_of (text_parts ops) ∙ after_frame_lines (awaits_over ops) rest
    ∙ ap (λ ls. frame (awaits_over ops) ++ ls) (ops_then_lines ops (concat last_lines) f ∙ ap (λ ls. map op_line ops ++ ls) last_text)

-- ---- lengths
some_line : (o : Op) → 0 < length (op_line o)
unfolding part_text
some_line (op.Write r v) = omega arith
some_line (op.Modify r c s) = omega arith
some_line (op.Read r) = omega arith
some_line (op.Await r m w n name) = omega arith

pub line_long : (o : Op) (rest : List ℕ) → length rest < length (op_line o ++ rest)
line_long o rest = let e = length-append (op_line o) rest in let l = some_line o in omega (arith, e, l)

frame_length : (over : Bool) → 180 ≤ length (concat (frame over))
unfolding part_text
frame_length true = omega arith
frame_length false = omega arith

pub frame_long : (over : Bool) (rest : List ℕ) → length rest + 9 ≤ length (concat (frame over) ++ rest)
frame_long over rest = let e = length-append (concat (frame over)) rest in let l = frame_length over in omega (arith, e, l)
