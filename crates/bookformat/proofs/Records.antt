-- The bytes of a record at a place, and the record that is read there.
use Rattle.std.proofs.Common.{◌≡◌, ℕ, zero, suc, ◌+◌, ◌*◌, ◌/◌, ◌%◌, ◌<◌, ◌≤◌, Bool, true, false, eqb, ◌⊎◌, List, [], ◌∷◌, ◌++◌, length, get_or, Some, None, Option, sym, refl, ap, ◌∙◌, subst, inl, inr, mul-zero, mul-suc, arith}
use Rattle.std.proofs.lemmas.Nat.{div-mul-add, mod-mul-add, div-add-mod'}
use Rattle.std.proofs.lemmas.List.FromFn.{length-map-range_with_len, get_or-map-range_with_len, fill_by_all}
use Rattle.std.proofs.lemmas.List.{append-nil, length-append}
use Rattle.std.proofs.lemmas.Bool.{cond_both, cond-false, eqb-true, ne_eqb}
use Rattle.bookformat.specs.declared.value.Kind.{Kind}
use Rattle.bookformat.specs.declared.value.Kind.TheVariants.{Send, Receive}
use Rattle.bookformat.specs.declared.value.Event.{Event}
use Rattle.bookformat.specs.declared.value.Interval.{Interval}
use Rattle.bookformat.specs.declared.value.Constraint.{Constraint}
use Rattle.bookformat.specs.declared.value.Link.{Link}
use Rattle.bookformat.specs.Encoding.{two, joined, kind_byte, end_bits, final_byte, interval_bytes, event_bytes, constraint_bytes, link_bytes}
use Rattle.bookformat.specs.Rules.{Proper, unbounded}
use Rattle.bookformat.specs.Layout.{byte, word, kind_of, end_of, interval_at, event_at, constraint_at, records, link_at}
use Rattle.bookformat.specs.Laws.{Octets}
use Rattle.bookformat.proofs.Tests.{same_interval}
use Rattle.bookformat.proofs.Parts.{Starts, starts_at, starts_nil, starts_cons, starts_head, starts_tail, starts_join, starts_left, starts_right, joined_starts, joined_ends, joined_places}

-- what one byte or one end says

pub kind_bytes : (k : ℕ) → (k ≡ 0x21) ⊎ (k ≡ 0x3f) → kind_byte (kind_of k) ≡ k
kind_bytes k (inl e) = subst (λ n. kind_byte (kind_of n) ≡ n) (sym e) refl
kind_bytes k (inr e) = subst (λ n. kind_byte (kind_of n) ≡ n) (sym e) refl

kind_cases : (k : Kind) → (kind_byte k ≡ 0x21) ⊎ (kind_byte k ≡ 0x3f)
kind_cases Send = inl refl
kind_cases Receive = inr refl

kind_read : (k : Kind) → kind_of (kind_byte k) ≡ k
kind_read Send = refl
kind_read Receive = refl

end_bytes : (n : ℕ) → end_bits (end_of n) ≡ n
end_bytes n = cond_both (eqb n 0xffff) None (Some n) (λ o. end_bits o ≡ n) (λ e. sym (eqb-true n 0xffff e)) (λ e. refl)

end_read : (o : Option ℕ) → ((u : ℕ) → o ≡ Some u → u ≤ 10000) → end_of (end_bits o) ≡ o
end_read (Some u) most = cond-false (eqb u 0xffff) None (Some u) (ne_eqb u 0xffff (λ e. let l = most u refl in omega arith))
end_read None most = refl

pub final_bytes : (n : ℕ) → n ≤ 1 → final_byte (eqb n 1) ≡ n
final_bytes zero l = refl
final_bytes (suc zero) l = refl
final_bytes (suc (suc n)) l = absurd (omega arith)

pub final_most : (f : Bool) → final_byte f ≤ 1
final_most true = omega arith
final_most false = omega arith

pub final_read : (f : Bool) → eqb (final_byte f) 1 ≡ f
final_read true = refl
final_read false = refl

-- 16 bits

pub word_starts : (b : List ℕ) (i : ℕ) → Octets b → i + 2 ≤ length b → Starts b i (two (word b i))
word_starts b i o l =
    starts_cons b i (i + 1) (word b i / 256) (word b i % 256 ∷ []) refl (sym (div-mul-add (byte b i) 256 (byte b (i + 1)) (o (i + 1))))
    (starts_cons b (i + 1) (i + 2) (word b i % 256) [] (omega arith) (sym (mod-mul-add (byte b i) 256 (byte b (i + 1)) (o (i + 1)))) (starts_nil b (i + 2) l))

pub word_read : (b : List ℕ) (i n : ℕ) → Starts b i (two n) → word b i ≡ n
word_read b i n s =
    let high = starts_head b i (n / 256) (n % 256 ∷ []) s in
    let low = starts_head b (i + 1) (n % 256) [] (starts_tail b i (i + 1) (n / 256) (n % 256 ∷ []) refl s) in
    ap (λ x. x * 256 + byte b (i + 1)) high ∙ ap (λ x. n / 256 * 256 + x) low ∙ div-add-mod' n 256

-- intervals

pub interval_starts : (b : List ℕ) (i : ℕ) → Octets b → i + 4 ≤ length b → Starts b i (interval_bytes (interval_at b i))
interval_starts b i o l =
    starts_join b i (i + 2) (two (word b i)) (two (end_bits (end_of (word b (i + 2))))) refl (word_starts b i o (omega arith))
    (subst (λ n. Starts b (i + 2) (two n)) (sym (end_bytes (word b (i + 2)))) (word_starts b (i + 2) o (omega arith)))

pub interval_read : (b : List ℕ) (i : ℕ) (v : Interval) → Proper v → Starts b i (interval_bytes v) → interval_at b i ≡ v
interval_read b i v p s =
    let low = word_read b i v.lower (starts_left b i (two v.lower) (two (end_bits v.upper)) s) in
    let high = word_read b (i + 2) (end_bits v.upper) (starts_right b i (i + 2) (two v.lower) (two (end_bits v.upper)) refl s) in
    same_interval (word b i) v.lower (end_of (word b (i + 2))) v.upper low (ap end_of high ∙ end_read v.upper p.upper_most)

-- events

pub event_starts : (b : List ℕ) (i : ℕ) → i + 3 ≤ length b → (byte b (i + 1) ≡ 0x21) ⊎ (byte b (i + 1) ≡ 0x3f) → Starts b i (event_bytes (event_at b i))
event_starts b i l k =
    starts_cons b i (i + 1) (byte b i) (kind_byte (kind_of (byte b (i + 1))) ∷ byte b (i + 2) ∷ []) refl refl
    (starts_cons b (i + 1) (i + 2) (kind_byte (kind_of (byte b (i + 1)))) (byte b (i + 2) ∷ []) (omega arith) (sym (kind_bytes (byte b (i + 1)) k))
    (starts_cons b (i + 2) (i + 3) (byte b (i + 2)) [] (omega arith) refl (starts_nil b (i + 3) l)))

same_event : (s t : ℕ) (k l : Kind) (p q : ℕ) → s ≡ t → k ≡ l → p ≡ q → ◌≡◌ {A = Event} (record { station = s; kind = k; pair = p }) (record { station = t; kind = l; pair = q })
same_event s t k l p q e f g = cc

-- the three bytes of an event
pub record EventRead (b : List ℕ) (i : ℕ) (e : Event) : Type 0 where
  pub station : byte b i ≡ e.station
  pub kind : byte b (i + 1) ≡ kind_byte e.kind
  pub pair : byte b (i + 2) ≡ e.pair

event_bytes_lem : (b : List ℕ) (i : ℕ) (e : Event) → Starts b i (event_bytes e) → EventRead b i e
event_bytes_lem b i e s =
    let t = starts_tail b i (i + 1) e.station (kind_byte e.kind ∷ e.pair ∷ []) refl s in
    let u = starts_tail b (i + 1) (i + 2) (kind_byte e.kind) (e.pair ∷ []) (omega arith) t in
    record { station = starts_head b i e.station (kind_byte e.kind ∷ e.pair ∷ []) s; kind = starts_head b (i + 1) (kind_byte e.kind) (e.pair ∷ []) t; pair = starts_head b (i + 2) e.pair [] u }

pub event_read : (b : List ℕ) (i : ℕ) (e : Event) → Starts b i (event_bytes e) → event_at b i ≡ e
event_read b i e s =
    let r = event_bytes_lem b i e s in
    same_event (byte b i) e.station (kind_of (byte b (i + 1))) e.kind (byte b (i + 2)) e.pair r.station (ap kind_of r.kind ∙ kind_read e.kind) r.pair

pub event_kind : (b : List ℕ) (i : ℕ) (e : Event) → Starts b i (event_bytes e) → (byte b (i + 1) ≡ 0x21) ⊎ (byte b (i + 1) ≡ 0x3f)
event_kind b i e s = subst (λ n. (n ≡ 0x21) ⊎ (n ≡ 0x3f)) (sym (event_bytes_lem b i e s).kind) (kind_cases e.kind)

-- constraints

pub constraint_starts : (b : List ℕ) (i : ℕ) → Octets b → i + 6 ≤ length b → Starts b i (constraint_bytes (constraint_at b i))
constraint_starts b i o l =
    starts_cons b i (i + 1) (byte b i) (byte b (i + 1) ∷ interval_bytes (interval_at b (i + 2))) refl refl
    (starts_cons b (i + 1) (i + 2) (byte b (i + 1)) (interval_bytes (interval_at b (i + 2))) (omega arith) refl (interval_starts b (i + 2) o (omega arith)))

same_constraint : (e f m n : ℕ) (v w : Interval) → e ≡ f → m ≡ n → v ≡ w → ◌≡◌ {A = Constraint} (record { first = e; second = m; interval = v }) (record { first = f; second = n; interval = w })
same_constraint e f m n v w p q r = cc

pub constraint_read : (b : List ℕ) (i : ℕ) (c : Constraint) → Proper c.interval → Starts b i (constraint_bytes c) → constraint_at b i ≡ c
constraint_read b i c p s =
    let t = starts_tail b i (i + 1) c.first (c.second ∷ interval_bytes c.interval) refl s in
    let u = starts_tail b (i + 1) (i + 2) c.second (interval_bytes c.interval) (omega arith) t in
    same_constraint (byte b i) c.first (byte b (i + 1)) c.second (interval_at b (i + 2)) c.interval
    (starts_head b i c.first (c.second ∷ interval_bytes c.interval) s)
    (starts_head b (i + 1) c.second (interval_bytes c.interval) t)
    (interval_read b (i + 2) c.interval p u)

-- records of one width, one after the other

pub length_joined : {X : Type 0} (bytes : X → List ℕ) (width : ℕ) (d : X) (xs : List X) → ((k : ℕ) → k < length xs → length (bytes (get_or xs k d)) ≡ width) → length (joined bytes xs) ≡ width * length xs
length_joined bytes width d [] wide = sym (mul-zero width)
length_joined bytes width d (x ∷ xs) wide =
    let more = length_joined bytes width d xs (λ k h. wide (suc k) (omega arith)) in
    let here : length (bytes x) ≡ width = wide 0 (omega arith) in
    length-append (bytes x) (joined bytes xs) ∙ (let e : length (bytes x) + length (joined bytes xs) ≡ width * length xs + width = omega arith in e) ∙ sym (mul-suc width (length xs))

step : (place width k n : ℕ) → n ≡ width → place + width * suc k ≡ place + width * k + n
step place width k n e = let m = mul-suc width k in omega arith

from : (place width : ℕ) → place + width * 0 ≡ place
from place width = let z = mul-zero width in omega arith

pub records_starts : {X : Type 0} (b : List ℕ) (bytes : X → List ℕ) (read : ℕ → X) (width place n : ℕ) → place ≤ length b → ((k : ℕ) → k < n → length (bytes (read (place + width * k))) ≡ width) → ((k : ℕ) → k < n → Starts b (place + width * k) (bytes (read (place + width * k)))) → Starts b place (joined bytes (records read width place n))
records_starts b bytes read width place n l wide each =
    let z = from place width in
    starts_at b (joined bytes (records read width place n)) (place + width * 0) place z
    (joined_starts b bytes (λ k. read (place + width * k)) (λ k. place + width * k) n (omega arith) (λ k h. step place width k (length (bytes (read (place + width * k)))) (wide k h)) each)

pub records_length : {X : Type 0} (bytes : X → List ℕ) (read : ℕ → X) (width place n : ℕ) → ((k : ℕ) → k < n → length (bytes (read (place + width * k))) ≡ width) → length (joined bytes (records read width place n)) ≡ width * n
records_length bytes read width place n wide =
    let e = joined_ends [] bytes (λ k. read (place + width * k)) (λ k. place + width * k) n (λ k h. step place width k (length (bytes (read (place + width * k)))) (wide k h)) in
    let z = from place width in
    omega arith

-- the place of each record, and of what follows the last
pub records_places : {X : Type 0} (b : List ℕ) (bytes : X → List ℕ) (d : X) (xs : List X) (rest : List ℕ) (width place : ℕ) → Starts b place (joined bytes xs ++ rest) → ((k : ℕ) → k < length xs → length (bytes (get_or xs k d)) ≡ width) → ((k : ℕ) → k < length xs → Starts b (place + width * k) (bytes (get_or xs k d))) × Starts b (place + width * length xs) rest
records_places b bytes d xs rest width place s wide =
    joined_places b bytes d xs rest (λ k. place + width * k)
    (starts_at b (joined bytes xs ++ rest) place (place + width * 0) (sym (from place width)) s)
    (λ k h t. step place width k (length (bytes (get_or xs k d))) (wide k h))

pub records_read : {X : Type 0} (b : List ℕ) (bytes : X → List ℕ) (read : ℕ → X) (d : X) (xs : List X) (rest : List ℕ) (width place : ℕ) → Starts b place (joined bytes xs ++ rest) → ((k : ℕ) → k < length xs → length (bytes (get_or xs k d)) ≡ width) → ((k i : ℕ) → k < length xs → Starts b i (bytes (get_or xs k d)) → read i ≡ get_or xs k d) → records read width place (length xs) ≡ xs
records_read b bytes read d xs rest width place s wide each =
    sym (fill_by_all (λ k. read (place + width * k)) xs (length xs) d refl (λ k h. sym (each k (place + width * k) h ((records_places b bytes d xs rest width place s wide).0 k h))))

-- what is read as record k
pub records_at : {X : Type 0} (read : ℕ → X) (d : X) (width place n k : ℕ) → k < n → get_or (records read width place n) k d ≡ read (place + width * k)
records_at read d width place n k h = get_or-map-range_with_len (λ j. read (place + width * j)) 0 n k k d h (omega arith)

pub records_count : {X : Type 0} (read : ℕ → X) (width place n : ℕ) → length (records read width place n) ≡ n
records_count read width place n = length-map-range_with_len (λ k. read (place + width * k)) 0 n

-- links

pub length_link : (l : Link) → length l.intervals ≡ 8 → length (link_bytes l) ≡ 34
length_link l e = let n = length_joined interval_bytes 4 unbounded l.intervals (λ k h. refl) in omega arith

pub link_starts : (b : List ℕ) (i : ℕ) → Octets b → i + 34 ≤ length b → Starts b i (link_bytes (link_at b i))
link_starts b i o l =
    let intervals = records (interval_at b) 4 (i + 2) 8 in
    starts_cons b i (i + 1) (byte b i) (byte b (i + 1) ∷ joined interval_bytes intervals) refl refl
    (starts_cons b (i + 1) (i + 2) (byte b (i + 1)) (joined interval_bytes intervals) (omega arith) refl
    (records_starts b interval_bytes (interval_at b) 4 (i + 2) 8 (omega arith) (λ k h. refl) (λ k h. interval_starts b (i + 2 + 4 * k) o (omega arith))))

same_link : (f g t u : ℕ) (v w : List Interval) → f ≡ g → t ≡ u → v ≡ w → ◌≡◌ {A = Link} (record { from = f; to = t; intervals = v }) (record { from = g; to = u; intervals = w })
same_link f g t u v w p q r = cc

pub link_read : (b : List ℕ) (i : ℕ) (l : Link) → length l.intervals ≡ 8 → ((p : ℕ) → p < 8 → Proper (get_or l.intervals p unbounded)) → Starts b i (link_bytes l) → link_at b i ≡ l
link_read b i l e proper s =
    let vs = l.intervals in
    let t = starts_tail b i (i + 1) l.from (l.to ∷ joined interval_bytes vs) refl s in
    let u = starts_tail b (i + 1) (i + 2) l.to (joined interval_bytes vs) (omega arith) t in
    let r : records (interval_at b) 4 (i + 2) (length vs) ≡ vs =
    records_read b interval_bytes (interval_at b) unbounded vs [] 4 (i + 2) (subst (λ x. Starts b (i + 2) x) (sym (append-nil (joined interval_bytes vs))) u) (λ k h. refl) (λ k j h x. interval_read b j (get_or vs k unbounded) (proper k (omega arith)) x) in
    same_link (byte b i) l.from (byte b (i + 1)) l.to (records (interval_at b) 4 (i + 2) 8) vs
    (starts_head b i l.from (l.to ∷ joined interval_bytes vs) s)
    (starts_head b (i + 1) l.to (joined interval_bytes vs) t)
    (ap (records (interval_at b) 4 (i + 2)) (sym e) ∙ r)
