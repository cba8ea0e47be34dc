-- What the requests that are read keep.
use Rattle.std.proofs.Common.{◌≡◌, ◌≢◌, ℕ, ◌≤◌, List, [], ◌∷◌, ◌++◌, Bool, true, false, ◌&&◌, Result, Ok, refl, sym, ap, subst, ◌∙◌, arith}
use Rattle.std.specs.Prelude.{◌==◌, codes}
use Rattle.std.specs.List.{list_any}
use Rattle.std.specs.Str.{bytes_eq}
use Rattle.std.proofs.lemmas.Grind.{common_steps}
use Rattle.res_base.specs.Lists.{Each, Pairwise}
use Rattle.res_base.proofs.ListLemmas.{each_map}
use Rattle.res_model.specs.Steps.{◌>>=◌}
use Rattle.res_model.specs.Valid.{IsText}
use Rattle.res_model.proofs.PlaceLaws.{differ}
use Rattle.table_members.specs.Json.{json_of}
use Rattle.table_members.specs.Forms.{below, due, fresh, list, member, need, number_within, object, text, top}
use Rattle.table_members.specs.declared.fault.TableFault.TheVariants.{BadField, NotJson}
use Rattle.table_members.proofs.FormLaws.{AreKept, one_more, Kept, bound, fresh_new, list_keeps, need_keeps, none_passes, number_keeps, same_ok, text_keeps}
use Rattle.serde_json.specs.Data.{Data}
use Rattle.serde_json.specs.Find.{get}
use Rattle.dma_table.specs.Reading.{dma_of, is_same_row, new_row, request, request_name, requests, row, three}
use Rattle.dma_model.specs.Requests.{AreRequests, IsRequest, IsRow}
use Rattle.dma_model.specs.declared.table.DmaRequest.{DmaRequest}
use Rattle.dma_model.specs.declared.table.DmaRow.{DmaRow}

-- ---- rows

abbrev DifferRows : DmaRow → DmaRow → Type 0
DifferRows a b = a ≢ b

same_number : (n : ℕ) → (n == n) ≡ true
same_number n = grind (arith, common_steps)

is_itself : (r : DmaRow) → is_same_row r r ≡ true
is_itself r = rw (same_number r.controller, same_number r.stream, same_number r.channel) refl

other_row : (r s : DmaRow) → is_same_row r s ≡ false → DifferRows s r
other_row r s e same = let t : true ≡ false = sym (is_itself r) ∙ ap (is_same_row r) (sym same) ∙ e in absurd cc

new_keeps : (before : List DmaRow) (path : List ℕ) (r s : DmaRow) → IsRow r → AreKept IsRow DifferRows before → new_row before path r ≡ Ok s → AreKept IsRow DifferRows (before ++ s ∷ [])
unfolding new_row
new_keeps before path r s fine kept h =
    let f = fresh_new path (list_any (is_same_row r) before) r s h in
    one_more IsRow DifferRows before s kept (subst IsRow f.1 fine)
    (each_map (λ t. is_same_row r t ≡ false) (λ t. DifferRows t s) before (λ t e. subst (λ (u : DmaRow). DifferRows t u) f.1 (other_row r t e)) (none_passes (is_same_row r) before f.0))

row_keeps : (before : List DmaRow) (path : List ℕ) (d : Data) (s : DmaRow) → AreKept IsRow DifferRows before → row before path d ≡ Ok s → AreKept IsRow DifferRows (before ++ s ∷ [])
unfolding row
row_keeps before path d s kept h =
    let ds = bound (due (BadField path) (three d)) _ s h in
    let c = bound (number_within 1 2 path ds.0.0) _ s ds.2 in
    let t = bound (number_within 0 7 path ds.0.1) _ s c.2 in
    let n = bound (number_within 0 7 path ds.0.2) _ s t.2 in
    let fine : IsRow (record { controller = c.0; stream = t.0; channel = n.0 }) = record {
      controller = number_keeps 1 2 path ds.0.0 c.0 c.1;
      stream = (number_keeps 0 7 path ds.0.1 t.0 t.1).1;
      channel = (number_keeps 0 7 path ds.0.2 n.0 n.1).1;
    } in
    new_keeps before path (record { controller = c.0; stream = t.0; channel = n.0 }) s fine kept n.2

-- ---- requests

abbrev DifferNames : DmaRequest → DmaRequest → Type 0
DifferNames r s = r.name ≢ s.name

record IsName (before : List DmaRequest) (name : List ℕ) : Type 0 where
  pub text : IsText name
  pub new : Each (λ (r : DmaRequest). r.name ≢ name) before

name_keeps : (before : List DmaRequest) (path : List ℕ) (d : Data) (name : List ℕ) → request_name before path d ≡ Ok name → IsName before name
unfolding request_name
name_keeps before path d name h =
    let w = bound (text path d) _ name h in
    let f = fresh_new path (list_any (λ r. bytes_eq r.name w.0) before) w.0 name w.2 in
    let fine : IsName before w.0 = record {
      text = text_keeps path d w.0 w.1;
      new = each_map (λ r. bytes_eq r.name w.0 ≡ false) (λ (r : DmaRequest). r.name ≢ w.0) before (λ r e. differ r.name w.0 e) (none_passes (λ r. bytes_eq r.name w.0) before f.0);
    } in
    subst (IsName before) f.1 fine

request_keeps : (before : List DmaRequest) (path : List ℕ) (d : Data) (r : DmaRequest) → AreKept IsRequest DifferNames before → request before path d ≡ Ok r → AreKept IsRequest DifferNames (before ++ r ∷ [])
unfolding request
request_keeps before path d r kept h =
    let o = bound (object path d) _ r h in
    let n = bound (member (request_name before) path (codes "name") o.0) _ r o.2 in
    let at = bound (member (list 1 8 row) path (codes "at") o.0) _ r n.2 in
    let name : IsName before n.0 = need_keeps (IsName before) (request_name before) (below path (codes "name")) (get (codes "name") o.0) n.0 (λ v e. name_keeps before (below path (codes "name")) v n.0 e) n.1 in
    let rows : Kept (AreKept IsRow DifferRows) 1 8 at.0 = need_keeps (Kept (AreKept IsRow DifferRows) 1 8) (list 1 8 row) (below path (codes "at")) (get (codes "at") o.0) at.0 (λ v e. list_keeps (AreKept IsRow DifferRows) 1 8 row (below path (codes "at")) v at.0 (tt, tt) row_keeps e) at.1 in
    let fine : IsRequest (record { name = n.0; at = at.0 }) = record { text = name.text; some_row = rows.low; few_rows = rows.high; rows = rows.kept.0; rows_differ = rows.kept.1 } in
    let is = same_ok (record { name = n.0; at = at.0 }) r at.2 in
    one_more IsRequest DifferNames before r kept (subst IsRequest is fine)
    (each_map (λ (s : DmaRequest). s.name ≢ n.0) (λ s. DifferNames s r) before (λ s e. subst (λ (x : DmaRequest). DifferNames s x) is e) name.new)

list_bounds : (path : List ℕ) (d : Data) (rs : List DmaRequest) → list 0 200 request path d ≡ Ok rs → AreRequests rs
list_bounds path d rs h =
    let k = list_keeps (AreKept IsRequest DifferNames) 0 200 request path d rs (tt, tt) request_keeps h in
    record { few = k.high; each = k.kept.0; names_differ = k.kept.1 }

-- the requests that bytes say keep their bounds
pub requests_keep_bounds : (bytes : List ℕ) (rs : List DmaRequest) → dma_of bytes ≡ Ok rs → AreRequests rs
unfolding dma_of requests
requests_keep_bounds bytes rs h =
    let d = bound (due NotJson (json_of bytes)) _ rs h in
    need_keeps AreRequests (list 0 200 request) (below [] (codes "dma")) (get (codes "dma") d.0) rs (λ v e. list_bounds (below [] (codes "dma")) v rs e) d.2
