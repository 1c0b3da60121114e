-- A step of the reader that was taken, undone: what it found, and what is left.
use Rattle.std.proofs.Common.{◌≡◌, ℕ, ◌+◌, ◌*◌, ◌/◌, ◌%◌, ◌<◌, Bool, true, false, cond, List, [], ◌∷◌, ◌++◌, length, get_or, Ok, Err, Result, sym, refl, ap, ◌∙◌, arith}
use Rattle.std.proofs.lemmas.Bool.{cond-true, eqb-true}
use Rattle.fault.specs.declared.Fault.{Fault}
use Rattle.avp.specs.declared.name.Name.{Name}
use Rattle.avp.specs.declared.field.Limits.{Limits}
use Rattle.avp.specs.Octets.{u32_at, u64_at}
use Rattle.avp.specs.Header.{Parsed, Span}
use Rattle.avp.specs.Fields.{Value, Number, Key, Unsigned32, Unsigned64, KeyOctets, allows, value_by, value_of}
use Rattle.group.specs.Walk.{then, avps, gather, linked}
use Rattle.group.specs.Shapes as shape
use Rattle.group.specs.Members.{Rules, named, member, ended, read_group}
use Rattle.group.proofs.Walks.{avps_step, gather_ends}
use Rattle.key.specs.Keys.{key_long}
use Rattle.draft.specs.Octets.{be32, be64, written}
use Rattle.trip.specs.Laws.First.{seen, first_written, name_back}
use Rattle.trip.specs.Laws.Steps.{some}

pub same_ok : {X : Type 0} {E : Type 0} (x y : X) → ◌≡◌ {A = Result X E} (Ok x) (Ok y) → x ≡ y
same_ok x y e = cc

pub then_undo : {X Y : Type 0} (r : Result X Fault) (k : X → Result Y Fault) (y : Y) → then r k ≡ Ok y → (x : X) × (r ≡ Ok x) × (k x ≡ Ok y)
then_undo (Ok x) k y e = (x, refl, e)
then_undo (Err f) k y e = let z : ◌≡◌ {A = ℕ} 0 1 = cc in absurd (omega arith)

pub cond_undo : {X : Type 0} (b : Bool) (x y : X) (f : Fault) → cond b (Ok x) (Err f) ≡ Ok y → (b ≡ true) × (x ≡ y)
cond_undo true x y f e = (refl, cc)
cond_undo false x y f e = let z : ◌≡◌ {A = ℕ} 0 1 = cc in absurd (omega arith)

cond_then : {X : Type 0} (b : Bool) (r : Result X Fault) (f : Fault) (y : X) → cond b r (Err f) ≡ Ok y → (b ≡ true) × (r ≡ Ok y)
cond_then true r f y e = (refl, e)
cond_then false r f y e = let z : ◌≡◌ {A = ℕ} 0 1 = cc in absurd (omega arith)

-- what one written AVP was read as
pub record Undone {S V : Type 0} (r : Rules S V) (s : S) (n : Name) (at : ℕ) (ds rest : List ℕ) (final : S) : Type 0 where
  pub value : Value
  pub next : S
  pub held : value_of n (r.limits s n) (seen n at ds rest) ≡ Ok value
  pub put : r.puts s n value at ≡ Ok next
  pub others : gather (member r) next (avps (seen n at ds rest).rest) ≡ Ok final

pub unstep : {S V : Type 0} (r : Rules S V) (s : S) (n : Name) (at : ℕ) (ds rest : List ℕ) (final : S) → length ds < 65536 → shape.admits (r.shapes s) (r.holds s) n ≡ true → gather (member r) s (avps (record { place = at; octets = written n ds ++ rest })) ≡ Ok final → Undone r s n at ds rest final
unstep r s n at ds rest final short fits e =
    let opened = sym (ap (gather (member r) s) (avps_step (record { place = at; octets = written n ds ++ rest }) (some n ds rest) ∙ ap (λ x. linked x avps) (first_written n at ds rest short))) ∙ e in
    let a = then_undo (member r s (seen n at ds rest)) (λ t. gather (member r) t (avps (seen n at ds rest).rest)) final opened in
    let known = sym (ap (named r s (seen n at ds rest)) (name_back n) ∙ cond-true _ _ _ fits) ∙ a.1 in
    let b = then_undo (value_of n (r.limits s n) (seen n at ds rest)) (λ v. r.puts s n v at) a.0 known in
    record { value = b.0; next = a.0; held = b.1; put = b.2; others = a.2 }

-- the data of what was read as a number
pub undo_32 : (l : Limits) (a : Parsed) (v : Value) → value_by Unsigned32 l a ≡ Ok v → (length a.body.octets ≡ 4) × (allows l (u32_at a.body.octets 0) ≡ true) × (v ≡ Number (u32_at a.body.octets 0))
undo_32 l a v e =
    let p = cond_then _ _ _ v e in
    let q = cond_undo _ (Number (u32_at a.body.octets 0)) v _ p.1 in
    (eqb-true _ 4 p.0, q.0, sym q.1)

pub undo_64 : (l : Limits) (a : Parsed) (v : Value) → value_by Unsigned64 l a ≡ Ok v → (length a.body.octets ≡ 8) × (allows l (u64_at a.body.octets 0) ≡ true) × (v ≡ Number (u64_at a.body.octets 0))
undo_64 l a v e =
    let p = cond_then _ _ _ v e in
    let q = cond_undo _ (Number (u64_at a.body.octets 0)) v _ p.1 in
    (eqb-true _ 8 p.0, q.0, sym q.1)

pub undo_key : (l : Limits) (a : Parsed) (v : Value) → value_by KeyOctets l a ≡ Ok v → (key_long a.body.octets ≡ true) × (v ≡ Key a.body.octets)
undo_key l a v e = let q = cond_undo _ (Key a.body.octets) v _ e in (q.0, sym q.1)

-- octets are the octets of the number that they hold
four : (a b c d : ℕ) → a < 256 → b < 256 → c < 256 → d < 256 → be32 (a * 16777216 + b * 65536 + c * 256 + d) ≡ a ∷ b ∷ c ∷ d ∷ []
four a b c d ha hb hc hd =
    let n : ℕ = a * 16777216 + b * 65536 + c * 256 + d in
    let w : n / 16777216 % 256 ≡ a = omega arith in
    let x : n / 65536 % 256 ≡ b = omega arith in
    let y : n / 256 % 256 ≡ c = omega arith in
    let z : n % 256 ≡ d = omega arith in
    λ i. w i ∷ x i ∷ y i ∷ z i ∷ []

pub again_32 : (ds : List ℕ) → length ds ≡ 4 → ((i : ℕ) → get_or ds i 0 < 256) → be32 (u32_at ds 0) ≡ ds
again_32 (a ∷ b ∷ c ∷ d ∷ []) e h = four a b c d (h 0) (h 1) (h 2) (h 3)
again_32 [] e h = absurd (omega arith)
again_32 (a ∷ []) e h = absurd (omega arith)
again_32 (a ∷ b ∷ []) e h = absurd (omega arith)
again_32 (a ∷ b ∷ c ∷ []) e h = absurd (omega arith)
again_32 (a ∷ b ∷ c ∷ d ∷ x ∷ ds) e h = absurd (omega arith)

low : (h l : ℕ) → be32 (h * 4294967296 + l) ≡ be32 l
low h l =
    let n : ℕ = h * 4294967296 + l in
    let w : n / 16777216 % 256 ≡ l / 16777216 % 256 = omega arith in
    let x : n / 65536 % 256 ≡ l / 65536 % 256 = omega arith in
    let y : n / 256 % 256 ≡ l / 256 % 256 = omega arith in
    let z : n % 256 ≡ l % 256 = omega arith in
    λ i. w i ∷ x i ∷ y i ∷ z i ∷ []

eight : (a b c d e f g h : ℕ) → a < 256 → b < 256 → c < 256 → d < 256 → e < 256 → f < 256 → g < 256 → h < 256 → be64 ((a * 16777216 + b * 65536 + c * 256 + d) * 4294967296 + (e * 16777216 + f * 65536 + g * 256 + h)) ≡ a ∷ b ∷ c ∷ d ∷ e ∷ f ∷ g ∷ h ∷ []
eight a b c d e f g h ha hb hc hd he hf hg hh =
    let top : ℕ = a * 16777216 + b * 65536 + c * 256 + d in
    let rest : ℕ = e * 16777216 + f * 65536 + g * 256 + h in
    let high : (top * 4294967296 + rest) / 4294967296 ≡ top = omega arith in
    (λ i. be32 (high i) ++ low top rest i)
    ∙ (λ i. four a b c d ha hb hc hd i ++ four e f g h he hf hg hh i)

pub again_64 : (ds : List ℕ) → length ds ≡ 8 → ((i : ℕ) → get_or ds i 0 < 256) → be64 (u64_at ds 0) ≡ ds
again_64 (a ∷ b ∷ c ∷ d ∷ e ∷ f ∷ g ∷ h ∷ []) l s = eight a b c d e f g h (s 0) (s 1) (s 2) (s 3) (s 4) (s 5) (s 6) (s 7)
again_64 [] l s = absurd (omega arith)
again_64 (a ∷ []) l s = absurd (omega arith)
again_64 (a ∷ b ∷ []) l s = absurd (omega arith)
again_64 (a ∷ b ∷ c ∷ []) l s = absurd (omega arith)
again_64 (a ∷ b ∷ c ∷ d ∷ []) l s = absurd (omega arith)
again_64 (a ∷ b ∷ c ∷ d ∷ e ∷ []) l s = absurd (omega arith)
again_64 (a ∷ b ∷ c ∷ d ∷ e ∷ f ∷ []) l s = absurd (omega arith)
again_64 (a ∷ b ∷ c ∷ d ∷ e ∷ f ∷ g ∷ []) l s = absurd (omega arith)
again_64 (a ∷ b ∷ c ∷ d ∷ e ∷ f ∷ g ∷ h ∷ x ∷ ds) l s = absurd (omega arith)

-- a group that was read, with its octets as they are read step by step
pub opened : {S V : Type 0} (r : Rules S V) (s : S) (g : Span) (bs : List ℕ) (v : V) → bs ≡ g.octets → read_group r s g ≡ Ok v → (final : S) × (gather (member r) s (avps (record { place = g.place; octets = bs })) ≡ Ok final) × (ended r g final ≡ Ok v)
opened r s g bs v is e =
    let a = then_undo (gather (member r) s (avps g)) (ended r g) v e in
    (a.0, ap (λ (l : List ℕ). gather (member r) s (avps (record { place = g.place; octets = l }))) is ∙ a.1, a.2)

-- no octets are left, so all was gathered
pub finished : {S V : Type 0} (r : Rules S V) (t : S) (place : ℕ) {final : S} → gather (member r) t (avps (record { place = place; octets = [] })) ≡ Ok final → t ≡ final
finished r t place e = same_ok _ _ (sym (gather_ends (member r) (record { place = place; octets = [] }) t refl) ∙ e)

pub ended_as : {S V : Type 0} (r : Rules S V) (t : S) (g : Span) (place : ℕ) {final : S} {v : V} → gather (member r) t (avps (record { place = place; octets = [] })) ≡ Ok final → ended r g final ≡ Ok v → ended r g t ≡ Ok v
ended_as r t g place e last = ap (ended r g) (finished r t place e) ∙ last
