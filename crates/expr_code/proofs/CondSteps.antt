-- One more relation, and one more list of relations, is appended.
use Rattle.std.proofs.Common.{◌≡◌, ℕ, ◌+◌, ◌<◌, ◌≤◌, List, [], ◌∷◌, ◌++◌, length, drop, get_or}
use Rattle.std.proofs.Common.{refl, sym, ap, ◌∙◌, subst, append-nil}
use Rattle.std.proofs.Math.ListN.{drop_of_length-le}
use Rattle.std.proofs.lemmas.List.{nil_from_length}
use Rattle.plex_num.proofs.Lists.{opens}
use Rattle.machine_code.specs.declared.op.Op.{Op}
use Rattle.machine_code.specs.declared.op.Op.TheVariants.{Ldi, Ldt, Stt, And, Or}
use Rattle.exchange_model.specs.declared.expr.Cond.{Cond}
use Rattle.exchange_model.specs.declared.expr.Relation.{Relation}
use Rattle.store_layout.specs.Rows.{Rows}
use Rattle.expr_code.specs.Code.{Site, rel_op, and_local, or_local, expr_code, relation_code}
use Rattle.expr_code.specs.Code.{and_code, all_code, or_code, any_code, cond_code}
use Rattle.expr_code.specs.Sites.{Begins, GrowsByCode}
use Rattle.expr_code.proofs.Emits.{Emitted, Emitting, emitting_begin, emitting_on, emitting_with}
use Rattle.expr_code.proofs.Emits.{emitting_end, grows_plain, begins_is, begins_on}

-- the last part is appended
emitting_last : (l : Rows) (b : ℕ) (old now new part : List Op) (left all : Site → List Op)
    → ((site : Site) → left site ≡ part) → Emitting l b old now left all → new ≡ now ++ part
    → GrowsByCode l b old new all
emitting_last l b old now new part left all is h e =
    emitting_end l b old new (λ site. []) all (λ site. refl)
    (emitting_on l b old now new left (λ site. []) all
    (record {
      begins = (grows_plain l b now new part e).begins;
      is = λ site s. e ∙ ap (λ c. now ++ c) (sym (is site));
    })
    (record { begins = h.begins; is = λ site s. subst (λ c. Emitted old now c (all site)) (sym (append-nil (left site))) (h.is site s) }))

pub relation_is : (r : Relation) (l : Rows) (b : ℕ) (old n1 n2 new : List Op)
    → GrowsByCode l b old n1 (λ site. expr_code r.left site 0)
    → GrowsByCode l b n1 n2 (λ site. expr_code r.right site 1) → new ≡ n2 ++ rel_op r.rel 0 1 ∷ []
    → GrowsByCode l b old new (λ site. relation_code r site)
relation_is r l b old n1 n2 new g1 g2 e3 =
    let op : List Op = rel_op r.rel 0 1 ∷ [] in
    let all : Site → List Op = λ site. relation_code r site in
    emitting_last l b old n2 new op (λ site. op) all (λ site. refl)
    (emitting_on l b old n1 n2 (λ site. expr_code r.right site 1) (λ site. op) all g2
    (emitting_on l b old old n1 (λ site. expr_code r.left site 0) (λ site. expr_code r.right site 1 ++ op) all g1
    (emitting_begin l b old all all (λ site. refl)))) e3

-- relations

-- these relations are left of a list, of which the first is done
unfoldable pub RelationsLeft : (l : Rows) (b : ℕ) (old now : List Op) (left_of all : List Relation) → Type 0
RelationsLeft l b old now left_of all = Emitting l b old now (λ site. and_code left_of site) (λ site. all_code all site)

abbrev and_first : List Op
and_first = Stt and_local 0 ∷ []

abbrev and_last : List Op
and_last = Ldt 1 and_local ∷ And 0 1 ∷ []

pub relations_begin : (all : List Relation) (r : Relation) (rest : List Relation) (l : Rows) (b : ℕ) (old now : List Op)
    → all ≡ r ∷ rest → GrowsByCode l b old now (λ site. relation_code r site) → RelationsLeft l b old now rest all
unfolding RelationsLeft
relations_begin all r rest l b old now is g =
    emitting_on l b old old now (λ site. relation_code r site) (λ site. and_code rest site) (λ site. all_code all site) g
    (emitting_begin l b old (λ site. all_code (r ∷ rest) site) (λ site. all_code all site) (λ site. ap (λ us. all_code us site) (sym is)))

pub relations_more : (rs all_rs : List Relation) (i : ℕ) (r : Relation) (l : Rows) (b : ℕ) (old now n1 n2 new : List Op)
    → i < length rs → r ≡ get_or rs i r → n1 ≡ now ++ Stt and_local 0 ∷ []
    → GrowsByCode l b n1 n2 (λ site. relation_code r site) → new ≡ n2 ++ (Ldt 1 and_local ∷ And 0 1 ∷ [])
    → RelationsLeft l b old now (drop i rs) all_rs → RelationsLeft l b old new (drop (i + 1) rs) all_rs
unfolding RelationsLeft
relations_more rs all_rs i r l b old now n1 n2 new lt is e1 g e3 h =
    let left : Site → List Op = λ site. and_code (drop (i + 1) rs) site in
    let all : Site → List Op = λ site. all_code all_rs site in
    emitting_with l b old n2 new and_last left all e3
    (emitting_on l b old n1 n2 (λ site. relation_code r site) (λ site. and_last ++ left site) all g
    (emitting_with l b old now n1 and_first (λ site. relation_code r site ++ (and_last ++ left site)) all e1
    (subst (λ us. Emitting l b old now (λ site. and_code us site) all) (opens rs i r lt is) h)))

pub relations_end : (rs all_rs : List Relation) (i : ℕ) (l : Rows) (b : ℕ) (old now : List Op) → length rs ≤ i
    → RelationsLeft l b old now (drop i rs) all_rs → GrowsByCode l b old now (λ site. all_code all_rs site)
unfolding RelationsLeft
relations_end rs all_rs i l b old now past h = emitting_end l b old now (λ site. and_code (drop i rs) site)
    (λ site. all_code all_rs site) (λ site. ap (λ us. and_code us site) (drop_of_length-le rs past)) h

pub relations_none : (all : List Relation) (l : Rows) (b : ℕ) (old now : List Op) → length all ≡ 0
    → now ≡ old ++ Ldi 0 1 ∷ [] → GrowsByCode l b old now (λ site. all_code all site)
relations_none all l b old now none e = subst (λ us. GrowsByCode l b old now (λ site. all_code us site))
    (sym (nil_from_length all none)) (grows_plain l b old now (Ldi 0 1 ∷ []) e)

pub relations_begins : (l : Rows) (b : ℕ) (old now new : List Op) (rs all_rs : List Relation)
    → RelationsLeft l b old now rs all_rs → Begins now new → Begins old new
unfolding RelationsLeft
relations_begins l b old now new rs all_rs h more = begins_on old now new h.begins more

-- the last part of a relation was not appended whole
pub relations_stop : (l : Rows) (b : ℕ) (old now n1 n2 new : List Op) (rs all_rs : List Relation) (r : Relation)
    → RelationsLeft l b old now rs all_rs → n1 ≡ now ++ Stt and_local 0 ∷ []
    → GrowsByCode l b n1 n2 (λ site. relation_code r site) → Begins n2 new → Begins old new
relations_stop l b old now n1 n2 new rs all_rs r h e1 g more = relations_begins l b old now new rs all_rs h
    (begins_on now n1 new (begins_is now n1 and_first e1) (begins_on n1 n2 new g.begins more))

-- lists of relations

-- these lists are left of a condition, of which the first is done
unfoldable pub ListsLeft : (l : Rows) (b : ℕ) (old now : List Op) (rss : List (List Relation)) (c : Cond) → Type 0
ListsLeft l b old now rss c = Emitting l b old now (λ site. or_code rss site) (λ site. cond_code c site)

abbrev or_first : List Op
or_first = Stt or_local 0 ∷ []

abbrev or_last : List Op
or_last = Ldt 1 or_local ∷ Or 0 1 ∷ []

pub lists_begin : (c : Cond) (all : List (List Relation)) (rs now_rs : List Relation) (rss : List (List Relation))
    (l : Rows) (b : ℕ) (old now : List Op) → all ≡ c.any → all ≡ rs ∷ rss → now_rs ≡ rs
    → GrowsByCode l b old now (λ site. all_code now_rs site) → ListsLeft l b old now rss c
unfolding ListsLeft
lists_begin c all rs now_rs rss l b old now any is same g =
    emitting_on l b old old now (λ site. all_code rs site) (λ site. or_code rss site) (λ site. cond_code c site)
    (subst (λ us. GrowsByCode l b old now (λ site. all_code us site)) same g)
    (emitting_begin l b old (λ site. any_code (rs ∷ rss) site) (λ site. cond_code c site) (λ site. ap (λ us. any_code us site) (sym is ∙ any)))

pub lists_more : (rss : List (List Relation)) (i : ℕ) (rs now_rs : List Relation) (l : Rows) (b : ℕ)
    (old now n1 n2 new : List Op) (c : Cond) → i < length rss → rs ≡ get_or rss i rs → now_rs ≡ rs
    → n1 ≡ now ++ Stt or_local 0 ∷ [] → GrowsByCode l b n1 n2 (λ site. all_code now_rs site)
    → new ≡ n2 ++ (Ldt 1 or_local ∷ Or 0 1 ∷ []) → ListsLeft l b old now (drop i rss) c
    → ListsLeft l b old new (drop (i + 1) rss) c
unfolding ListsLeft
lists_more rss i rs now_rs l b old now n1 n2 new c lt is same e1 g e3 h =
    let left : Site → List Op = λ site. or_code (drop (i + 1) rss) site in
    let all : Site → List Op = λ site. cond_code c site in
    let g' : GrowsByCode l b n1 n2 (λ site. all_code rs site) = subst (λ us. GrowsByCode l b n1 n2 (λ site. all_code us site)) same g in
    emitting_with l b old n2 new or_last left all e3
    (emitting_on l b old n1 n2 (λ site. all_code rs site) (λ site. or_last ++ left site) all g'
    (emitting_with l b old now n1 or_first (λ site. all_code rs site ++ (or_last ++ left site)) all e1
    (subst (λ us. Emitting l b old now (λ site. or_code us site) all) (opens rss i rs lt is) h)))

pub lists_end : (rss : List (List Relation)) (i : ℕ) (l : Rows) (b : ℕ) (old now : List Op) (c : Cond) → length rss ≤ i
    → ListsLeft l b old now (drop i rss) c → GrowsByCode l b old now (λ site. cond_code c site)
unfolding ListsLeft
lists_end rss i l b old now c past h = emitting_end l b old now (λ site. or_code (drop i rss) site)
    (λ site. cond_code c site) (λ site. ap (λ us. or_code us site) (drop_of_length-le rss past)) h

pub lists_none : (c : Cond) (all : List (List Relation)) (l : Rows) (b : ℕ) (old now : List Op) → all ≡ c.any
    → length all ≡ 0 → now ≡ old ++ Ldi 0 0 ∷ [] → GrowsByCode l b old now (λ site. cond_code c site)
lists_none c all l b old now any none e = subst (λ us. GrowsByCode l b old now (λ site. any_code us site))
    (sym (nil_from_length all none) ∙ any) (grows_plain l b old now (Ldi 0 0 ∷ []) e)

pub lists_begins : (l : Rows) (b : ℕ) (old now new : List Op) (rss : List (List Relation)) (c : Cond)
    → ListsLeft l b old now rss c → Begins now new → Begins old new
unfolding ListsLeft
lists_begins l b old now new rss c h more = begins_on old now new h.begins more

-- the last part of a list of relations was not appended whole
pub lists_stop : (l : Rows) (b : ℕ) (old now n1 n2 new : List Op) (rss : List (List Relation)) (rs : List Relation)
    (c : Cond) → ListsLeft l b old now rss c → n1 ≡ now ++ Stt or_local 0 ∷ []
    → GrowsByCode l b n1 n2 (λ site. all_code rs site) → Begins n2 new → Begins old new
lists_stop l b old now n1 n2 new rss rs c h e1 g more = lists_begins l b old now new rss c h
    (begins_on now n1 new (begins_is now n1 or_first e1) (begins_on n1 n2 new g.begins more))

-- a loop over relations, and one over lists of them
pub ruleset each_relation = (relations_begin, relations_more, relations_end, relations_none, relations_begins)

pub ruleset each_list = (lists_begin, lists_more, lists_end, lists_none, lists_begins)
