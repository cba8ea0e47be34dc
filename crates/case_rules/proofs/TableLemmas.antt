-- The table's text is read.
use Rattle.std.proofs.Common.{◌==◌, ◌≡◌, ◌∙◌, ◌<◌, ◌++◌, ◌+◌, ◌%◌, ℕ, zero, suc, List, length, codes, true, if◌then◌else◌, refl, sym, ap, subst, inl, inr, arith, eq-eqb, None, Ok}
use Rattle.std.proofs.lemmas.Str.{utf8_valid_len-IsUtf8}
use Rattle.std.specs.Str.Lossy.{utf8_valid_len}
use Rattle.big_case.specs.Case.{joined, head, listed_pin, last_pins, signal_row, moving_signal, needed_signals, last_signals, rest, table_text}
use Rattle.case_rules.specs.CaseTable.{case_table, table_for}
use Rattle.case_rules.proofs.OnLiterals.{table_text_on_literals, table_on_literals, table_reader_on_literals}
use Rattle.json.proofs.Printed.Utf8.{are_ascii, IsUtf8-are_ascii}
use Rattle.res_base.proofs.SumLemmas.{split}
use Rattle.table_members.specs.Json.{json_of}
use Rattle.res_model.specs.Steps.{◌>>=◌}
use Rattle.table_members.specs.Forms.{due}
use Rattle.mcu_tables.specs.Table.{table, tables_of}
use Rattle.table_members.specs.declared.fault.TableFault.TheVariants.{NotJson}
use Rattle.serde_json.proofs.OnLiterals.{serde_json_on_literals}
use Rattle.serde_json.specs.Read.{read}

-- the text for a, the number of a case modulo 13
unfoldable text_for : ℕ → List ℕ
text_for a =
    head ++ joined 112 listed_pin ++ last_pins ++ joined 13 moving_signal
    ++ (signal_row (codes "N0") 2 a ((a + 1) % 13) ++ signal_row (codes "N1") 2 ((a + 2) % 13) ((a + 3) % 13)) ++ last_signals ++ rest

is_for : (number : ℕ) → table_text number ≡ text_for (number % 13)
unfolding table_text needed_signals text_for
is_for number = refl

-- P holds of each number below n
abbrev Below : (ℕ → Type 0) → ℕ → Type 0
Below P zero = Unit {0}
Below P (suc n) = Below P n × P n

at : (P : ℕ → Type 0) (n : ℕ) → Below P n → (a : ℕ) → a < n → P a
at P zero all a h = absurd (omega arith)
at P (suc n) all a h = elim (split a n) [ inl e ↦ subst P (sym e) all.1 | inr d ↦ at P n all.0 a (omega (arith, d)) ]

abbrev IsRead : ℕ → Type 0
IsRead a = (are_ascii (text_for a) ≡ true) × ((due NotJson (read (text_for a)) >>= table) ≡ Ok (table_for a))

all_read : Below IsRead 13
unfolding serde_json_on_literals text_for table_text_on_literals table_on_literals table_reader_on_literals
all_read =
    (((((((((((((tt, (refl, refl)), (refl, refl)), (refl, refl)), (refl, refl)), (refl, refl)), (refl, refl)), (refl, refl)), (refl, refl)), (refl, refl)), (refl, refl)), (refl, refl)), (refl, refl)), (refl, refl))

-- the text is UTF-8, so the value that is read of it is that of the JSON
taken : (text : List ℕ) → are_ascii text ≡ true → tables_of text ≡ (due NotJson (read text) >>= table)
unfolding json_of tables_of
taken text h =
    let whole : (utf8_valid_len text == length text) ≡ true = eq-eqb _ _ (utf8_valid_len-IsUtf8 text (IsUtf8-are_ascii text h)) in
    ap (λ b. due NotJson (if b then read text else None) >>= table) whole

pub table_read : (number : ℕ) → tables_of (table_text number) ≡ Ok (case_table number)
unfolding case_table
table_read number =
    let r = at IsRead 13 all_read (number % 13) (omega arith) in
    ap tables_of (is_for number) ∙ (taken _ r.0 ∙ r.1)
