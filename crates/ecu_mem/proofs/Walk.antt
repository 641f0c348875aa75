-- The steps of reading a document.
use Rattle.std.proofs.Common.{◌≡◌, ◌∙◌, sym, refl, ap, ℕ, suc, ◌+◌, ◌<◌, List, [], ◌∷◌, ◌++◌, map, length, get_or, drop, drop-cons, add-one, Bool, true, false, cond, codes, Some, None, Ok, Err, arith}
use Rattle.std.specs.Prelude.{⊤}
use Rattle.odx_tree.specs.declared.element.Element.{Element}
use Rattle.ecu_mem.specs.declared.entry.Entry.{Entry}
use Rattle.ecu_mem.specs.declared.kind.Kind.{Kind}
use Rattle.ecu_mem.specs.declared.kind.Seen.{Seen}
use Rattle.ecu_mem.specs.declared.refusal.Refusal.{Refusal}
use Rattle.ecu_mem.specs.Refusals.{Reading, ◌>>=◌, in_kid, lower}
use Rattle.ecu_mem.specs.Parts.{kids_of, has_tag, first_from, kid}
use Rattle.std.proofs.lemmas.List.{get_or_default}
use Rattle.ecu_mem.specs.Places.{Place, under, element_at, places_from, ecu_mems, counting_from, group_kind, group_members, new_kind, seen_after, seen_with, groups_from, groups, carriers_of}
use Rattle.ecu_mem.specs.Catalogue.{in_place, over_places, with_element, with_ecu_mem}
use Rattle.ecu_mem.specs.Index.{after}

abbrev pub Step : Type 0
Step = Element → List Entry → Reading (List Entry)

-- after a step in kid i that went well
pub went : (i : ℕ) (r : Reading ⊤) (es : List Entry) (R : Reading (List Entry)) (k : List Entry → Reading (List Entry)) → after r es ≡ R → Ok tt ≡ in_kid i r → (in_kid i R >>= k) ≡ k es
went i (Ok x) es R k h e = rw (← h) refl
went i (Err f) es R k h e = cc

-- after a step in kid i that was refused
pub stopped : (i : ℕ) (r : Reading ⊤) (es : List Entry) (R : Reading (List Entry)) (k : List Entry → Reading (List Entry)) (f : Refusal) → after r es ≡ R → Err f ≡ in_kid i r → (in_kid i R >>= k) ≡ Err f
stopped i (Ok x) es R k f h e = cc
stopped i (Err g) es R k f h e = let same : f ≡ lower i g = cc in rw (← h) (ap Err (sym same))

-- a step in kid i is the last
pub last_step : (i : ℕ) (r : Reading ⊤) (es : List Entry) (R : Reading (List Entry)) → after r es ≡ R → after (in_kid i r) es ≡ in_kid i R
last_step i (Ok x) es R h = rw (← h) refl
last_step i (Err f) es R h = rw (← h) refl

right_unit : (r : Reading (List Entry)) → (r >>= λ t. Ok t) ≡ r
right_unit (Ok t) = refl
right_unit (Err f) = refl

pub over-here : (step : Step) (e : Element) (es : List Entry) → over_places step e ([] ∷ []) es ≡ step e es
over-here step e es = right_unit (step e es)

-- first the places in kid i, and then the rest
pub over-under : (step : Step) (e : Element) (i : ℕ) (ps qs : List Place) (es : List Entry) → over_places step e (under i ps ++ qs) es ≡ (in_kid i (over_places step (get_or (kids_of e) i e) ps es) >>= λ t. over_places step e qs t)
over-under step e i [] qs es = refl
over-under step e i (p ∷ ps) qs es = one (in_place p (step (element_at (get_or (kids_of e) i e) p) es)) (λ t. over-under step e i ps qs t)
  where
    one : (r : Reading (List Entry)) → ((t : List Entry) → over_places step e (under i ps ++ qs) t ≡ (in_kid i (over_places step (get_or (kids_of e) i e) ps t) >>= λ u. over_places step e qs u)) →
        (in_kid i r >>= λ t. over_places step e (under i ps ++ qs) t) ≡ (in_kid i (r >>= λ t. over_places step (get_or (kids_of e) i e) ps t) >>= λ t. over_places step e qs t)
    one (Ok t) rest = rest t
    one (Err f) rest = refl

append-nil_lem : (ps : List Place) → ps ++ [] ≡ ps
append-nil_lem [] = refl
append-nil_lem (p ∷ ps) = ap (λ x. p ∷ x) (append-nil_lem ps)

-- only places in kid i
pub over-kid : (step : Step) (e : Element) (i : ℕ) (ps : List Place) (es : List Entry) → over_places step e (under i ps) es ≡ in_kid i (over_places step (get_or (kids_of e) i e) ps es)
over-kid step e i ps es =
    ap (λ qs. over_places step e qs es) (sym (append-nil_lem (under i ps))) ∙ over-under step e i ps [] es ∙ right_unit (in_kid i (over_places step (get_or (kids_of e) i e) ps es))

pub member-skipped : (i : ℕ) (test : Element → Bool) (ks : List Element) (d : Element) → i < length ks → test (get_or ks i d) ≡ false → counting_from i test (drop i ks) ≡ counting_from (i + 1) test (drop (i + 1) ks)
member-skipped i test ks d h t = rw (drop-cons ks i d h, t, add-one) refl

pub member-taken : (i : ℕ) (test : Element → Bool) (ks : List Element) (d : Element) → i < length ks → test (get_or ks i d) ≡ true → counting_from i test (drop i ks) ≡ (i ∷ []) ∷ counting_from (i + 1) test (drop (i + 1) ks)
member-taken i test ks d h t = rw (drop-cons ks i d h, t, add-one) refl

pub group-skipped : (i : ℕ) (seen : Seen) (ks : List Element) (d : Element) → i < length ks → new_kind seen (group_kind (get_or ks i d)) ≡ None → groups_from i seen (drop i ks) ≡ groups_from (i + 1) seen (drop (i + 1) ks)
group-skipped i seen ks d h t = rw (drop-cons ks i d h, t, add-one) refl

pub group-taken : (i : ℕ) (seen : Seen) (ks : List Element) (d : Element) (k : Kind) → i < length ks → new_kind seen (group_kind (get_or ks i d)) ≡ Some k →
    groups_from i seen (drop i ks) ≡ under i (group_members k (get_or ks i d)) ++ groups_from (i + 1) (seen_after seen (Some k)) (drop (i + 1) ks)
group-taken i seen ks d k h t = rw (drop-cons ks i d h, t, add-one) refl

pub place-taken : (i : ℕ) (ks : List Element) (d : Element) → i < length ks → places_from i (map ecu_mems (drop i ks)) ≡ under i (ecu_mems (get_or ks i d)) ++ places_from (i + 1) (map ecu_mems (drop (i + 1) ks))
place-taken i ks d h = rw (drop-cons ks i d h, add-one) refl

-- a kid that was found stands at its position
found_at : (j : ℕ) (test : Element → Bool) (es : List Element) (i : ℕ) (k d : Element) → first_from j test es ≡ Some (i, k) → (m : ℕ) × (i ≡ j + m) × (get_or es m d ≡ k)
found_at j test [] i k d h = cc
found_at j test (e ∷ es) i k d h =
    elim (test e) as (λ b. cond b (Some (j, e)) (first_from (suc j) test es) ≡ Some (i, k) → (m : ℕ) × (i ≡ j + m) × (get_or (e ∷ es) m d ≡ k)) [
      | true ↦ λ p. let both : ◌≡◌ {A = ℕ × Element} (j, e) (i, k) = cc in let same : j ≡ i = ap (λ (q : ℕ × Element). q.0) both in let here : e ≡ k = ap (λ (q : ℕ × Element). q.1) both in let place : i ≡ j + 0 = omega arith in (0, place, here)
      | false ↦ λ p. let rest = found_at (suc j) test es i k d p in let after : i ≡ suc j + rest.0 = rest.1 in let place : i ≡ j + suc rest.0 = omega arith in (suc rest.0, place, rest.2)
    ] h

pub kid-at : (tag : List ℕ) (e : Element) (i : ℕ) (k : Element) → kid tag e ≡ Some (i, k) → get_or (kids_of e) i e ≡ k
kid-at tag e i k h = let found = found_at 0 (has_tag tag) (kids_of e) i k e h in let place : i ≡ 0 + found.0 = found.1 in let same : i ≡ found.0 = omega arith in rw same found.2

-- a kid in a list of kids, whatever stands past the end
pub kid_of-same : (e : Element) (ks : List Element) (i : ℕ) (x : Element) → ks ≡ kids_of e → i < length ks → x ≡ get_or ks i x → get_or (kids_of e) i e ≡ x
kid_of-same e ks i x k h x_is = ap (λ (l : List Element). get_or l i e) (sym k) ∙ (get_or_default ks i e x h ∙ sym x_is)

-- the places in a kid whose reading went well, and then the rest
pub kid-went : (step : Step) (e : Element) (ks : List Element) (i : ℕ) (x : Element) (ps qs : List Place) (es now : List Entry) (r : Reading ⊤) → ks ≡ kids_of e → i < length ks → x ≡ get_or ks i x →
    after r now ≡ over_places step x ps es → Ok tt ≡ in_kid i r → over_places step e (under i ps ++ qs) es ≡ over_places step e qs now
kid-went step e ks i x ps qs es now r k h x_is made ok =
    over-under step e i ps qs es
    ∙ (ap (λ (y : Element). in_kid i (over_places step y ps es) >>= λ t. over_places step e qs t) (kid_of-same e ks i x k h x_is)
    ∙ went i r now (over_places step x ps es) (λ t. over_places step e qs t) made ok)

-- the places in a kid whose reading was refused
pub kid-stopped : (step : Step) (e : Element) (ks : List Element) (i : ℕ) (x : Element) (ps qs : List Place) (es now : List Entry) (r : Reading ⊤) (f : Refusal) → ks ≡ kids_of e → i < length ks → x ≡ get_or ks i x →
    after r now ≡ over_places step x ps es → Err f ≡ in_kid i r → over_places step e (under i ps ++ qs) es ≡ Err f
kid-stopped step e ks i x ps qs es now r f k h x_is made refused =
    over-under step e i ps qs es
    ∙ (ap (λ (y : Element). in_kid i (over_places step y ps es) >>= λ t. over_places step e qs t) (kid_of-same e ks i x k h x_is)
    ∙ stopped i r now (over_places step x ps es) (λ t. over_places step e qs t) f made refused)

taken_places : (i : ℕ) (seen : Seen) (ks : List Element) (x : Element) (k : Kind) → i < length ks → x ≡ get_or ks i x → new_kind seen (group_kind x) ≡ Some k →
    groups_from i seen (drop i ks) ≡ under i (group_members k x) ++ groups_from (i + 1) (seen_with k seen) (drop (i + 1) ks)
taken_places i seen ks x k h x_is t =
    group-taken i seen ks x k h (ap (λ (y : Element). new_kind seen (group_kind y)) (sym x_is) ∙ t)
    ∙ ap (λ (y : Element). under i (group_members k y) ++ groups_from (i + 1) (seen_with k seen) (drop (i + 1) ks)) (sym x_is)

-- a group that went well
pub group-went : (e : Element) (ks : List Element) (i : ℕ) (seen : Seen) (x : Element) (k : Kind) (es now : List Entry) (r : Reading ⊤) → ks ≡ kids_of e → i < length ks → x ≡ get_or ks i x → new_kind seen (group_kind x) ≡ Some k →
    after r now ≡ over_places with_element x (group_members k x) es → Ok tt ≡ in_kid i r →
    over_places with_element e (groups_from i seen (drop i ks)) es ≡ over_places with_element e (groups_from (i + 1) (seen_with k seen) (drop (i + 1) ks)) now
group-went e ks i seen x k es now r same h x_is t made ok =
    ap (λ ps. over_places with_element e ps es) (taken_places i seen ks x k h x_is t)
    ∙ kid-went with_element e ks i x (group_members k x) (groups_from (i + 1) (seen_with k seen) (drop (i + 1) ks)) es now r same h x_is made ok

-- a group that was refused
pub group-stopped : (e : Element) (ks : List Element) (i : ℕ) (seen : Seen) (x : Element) (k : Kind) (es now : List Entry) (r : Reading ⊤) (f : Refusal) → ks ≡ kids_of e → i < length ks → x ≡ get_or ks i x → new_kind seen (group_kind x) ≡ Some k →
    after r now ≡ over_places with_element x (group_members k x) es → Err f ≡ in_kid i r → over_places with_element e (groups_from i seen (drop i ks)) es ≡ Err f
group-stopped e ks i seen x k es now r f same h x_is t made refused =
    ap (λ ps. over_places with_element e ps es) (taken_places i seen ks x k h x_is t)
    ∙ kid-stopped with_element e ks i x (group_members k x) (groups_from (i + 1) (seen_with k seen) (drop (i + 1) ks)) es now r f same h x_is made refused

-- a kid of MEM that is no new group
pub group-passed : (e : Element) (ks : List Element) (i : ℕ) (seen : Seen) (x : Element) (es : List Entry) → i < length ks → x ≡ get_or ks i x → new_kind seen (group_kind x) ≡ None →
    over_places with_element e (groups_from i seen (drop i ks)) es ≡ over_places with_element e (groups_from (i + 1) seen (drop (i + 1) ks)) es
group-passed e ks i seen x es h x_is t = ap (λ ps. over_places with_element e ps es) (group-skipped i seen ks x h (ap (λ (y : Element). new_kind seen (group_kind y)) (sym x_is) ∙ t))

places-at : (i : ℕ) (ks : List Element) (x : Element) → i < length ks → x ≡ get_or ks i x → places_from i (map ecu_mems (drop i ks)) ≡ under i (ecu_mems x) ++ places_from (i + 1) (map ecu_mems (drop (i + 1) ks))
places-at i ks x h x_is = place-taken i ks x h ∙ ap (λ (y : Element). under i (ecu_mems y) ++ places_from (i + 1) (map ecu_mems (drop (i + 1) ks))) (sym x_is)

-- a kid whose ECU-MEM elements were read
pub place-went : (e : Element) (ks : List Element) (i : ℕ) (x : Element) (es now : List Entry) (r : Reading ⊤) → ks ≡ kids_of e → i < length ks → x ≡ get_or ks i x →
    after r now ≡ over_places with_ecu_mem x (ecu_mems x) es → Ok tt ≡ in_kid i r →
    over_places with_ecu_mem e (places_from i (map ecu_mems (drop i ks))) es ≡ over_places with_ecu_mem e (places_from (i + 1) (map ecu_mems (drop (i + 1) ks))) now
place-went e ks i x es now r same h x_is made ok =
    ap (λ ps. over_places with_ecu_mem e ps es) (places-at i ks x h x_is) ∙ kid-went with_ecu_mem e ks i x (ecu_mems x) (places_from (i + 1) (map ecu_mems (drop (i + 1) ks))) es now r same h x_is made ok

-- a kid that was refused
pub place-stopped : (e : Element) (ks : List Element) (i : ℕ) (x : Element) (es now : List Entry) (r : Reading ⊤) (f : Refusal) → ks ≡ kids_of e → i < length ks → x ≡ get_or ks i x →
    after r now ≡ over_places with_ecu_mem x (ecu_mems x) es → Err f ≡ in_kid i r → over_places with_ecu_mem e (places_from i (map ecu_mems (drop i ks))) es ≡ Err f
place-stopped e ks i x es now r f same h x_is made refused =
    ap (λ ps. over_places with_ecu_mem e ps es) (places-at i ks x h x_is) ∙ kid-stopped with_ecu_mem e ks i x (ecu_mems x) (places_from (i + 1) (map ecu_mems (drop (i + 1) ks))) es now r f same h x_is made refused

-- an ECU-MEM by its MEM
pub mem-read : (e : Element) (i : ℕ) (m : Element) (es now : List Entry) (r : Reading ⊤) (s : Reading ⊤) → kid (codes "MEM") e ≡ Some (i, m) → after r now ≡ over_places with_element m (groups m) es → s ≡ in_kid i r → after s now ≡ with_ecu_mem e es
unfolding with_ecu_mem
mem-read e i m es now r s k h s_is =
    ap (λ (q : Reading ⊤). after q now) s_is ∙ (last_step i r now (over_places with_element m (groups m) es) h
    ∙ sym (ap (λ found. over_places with_element e (carriers_of found) es) k ∙ (over-kid with_element e i (groups m) es ∙ ap (λ (x : Element). in_kid i (over_places with_element x (groups m) es)) (kid-at (codes "MEM") e i m k))))
