-- SELECT, read with what its three forms have in common once, is the three forms.
use Rattle.std.proofs.Common.{◌≡◌, ℕ, List, [], ◌∷◌, ◌++◌, inl, inr, Bool, true, false, Option, Some, None, refl, sym, ◌∙◌, ap, subst, append_assoc}
use Rattle.std.specs.Prelude.{◌&&◌, map}
use Rattle.std.specs.List.{flat_map}
use Rattle.std.proofs.lemmas.List.{append-nil, flat_map_more, map_push}
use Rattle.ob_grammar.specs.Language.{Token as OneToken, Empty, Bind, Either, Iter, stop, turn, Next, Listed}
use Rattle.ob_base.specs.declared.skeleton.ColumnName.{ColumnName}
use Rattle.ob_base.specs.declared.skeleton.Source.{Source}
use Rattle.ob_base.specs.declared.skeleton.Source.TheVariants as F
use Rattle.ob_sql.specs.declared.stmt.Listed.{Listed as Item}
use Rattle.ob_sql.specs.declared.stmt.Listed.TheVariants as I
use Rattle.ob_sql.specs.declared.stmt.Stmt.{Stmt}
use Rattle.ob_sql.specs.Search.{Search}
use Rattle.ob_sql.specs.Skeleton.{named_by}
use Rattle.ob_token.specs.declared.token.Mark.TheVariants as M
use Rattle.ob_token.specs.declared.token.Token.{Token}
use Rattle.ob_condition.specs.Marks.{key, name_of}
use Rattle.ob_condition.specs.Conditions.{Column, Where}
use Rattle.ob_parse.specs.Statements.{all_columns, is_column, of_items, rows, AfterName, Groups, Itemized, Joins, OneItem, Selection, Sources, Starred}
use Rattle.ob_parse.specs.Selects.{ColumnsOfJoin, Inners, ItemsOfTable, OneSource, ThreeForms}

-- ---- one after the other

module _ {T U V W : Type 0} (A : U → List T → Type 0) (B : U → V → List T → Type 0) (C : V → W → List T → Type 0) where
  bind_right : (w : W) (ts : List T) → Bind (Bind A B) C w ts → Bind A (λ u. Bind (B u) C) w ts
  bind_right w ts (v, x, y, (u, p, q, a, b, e), c, h) = (u, p, q ++ y, a, (v, q, y, b, c, refl), h ∙ ap (λ zs. zs ++ y) e ∙ append_assoc p q y)

  bind_left : (w : W) (ts : List T) → Bind A (λ u. Bind (B u) C) w ts → Bind (Bind A B) C w ts
  bind_left w ts (u, p, r, a, (v, q, y, b, c, e), h) = (v, p ++ q, y, (u, p, q, a, b, refl), c, h ∙ ap (λ zs. p ++ zs) e ∙ sym (append_assoc p q y))

first_so : {T U V : Type 0} (A A' : U → List T → Type 0) (B : U → V → List T → Type 0) → ((u : U) (w : List T) → A u w → A' u w) → (v : V) (ts : List T) → Bind A B v ts → Bind A' B v ts
first_so A A' B so v ts (u, x, y, a, b, e) = (u, x, y, so u x a, b, e)

then_so : {T U V : Type 0} (A : U → List T → Type 0) (B B' : U → V → List T → Type 0) → ((u : U) (v : V) (w : List T) → B u v w → B' u v w) → (v : V) (ts : List T) → Bind A B v ts → Bind A B' v ts
then_so A B B' so v ts (u, x, y, a, b, e) = (u, x, y, a, so u v y b, e)

-- ---- one table or two

to_source : (s : Source) (ts : List Token) → Bind (OneToken name_of) AfterName s ts → OneSource s ts
to_source s ts (a, x, y, n, inl h, e) = inr (a, x, y, n, inl h, e)
to_source s ts (a, x, y, n, inr (inl h), e) = inr (a, x, y, n, inr h, e)
to_source s ts (a, x, y, n, inr (inr h), e) = inl (a, x, y, n, h, e)

of_source : (s : Source) (ts : List Token) → OneSource s ts → Bind (OneToken name_of) AfterName s ts
of_source s ts (inl (a, x, y, n, h, e)) = (a, x, y, n, inr (inr h), e)
of_source s ts (inr (a, x, y, n, inl h, e)) = (a, x, y, n, inl h, e)
of_source s ts (inr (a, x, y, n, inr h, e)) = (a, x, y, n, inr (inl h), e)

abbrev IsJoin : List ℕ → Source → Type 0
IsJoin a source = (right : List ℕ) × (on : ColumnName) × (equals : ColumnName) × (source ≡ F.Join a right on equals)

joins_two : (a : List ℕ) (s : Source) (w : List Token) → Joins a s w → IsJoin a s
joins_two a s w (right, x, y, n, (u, x1, y1, k1, (on, x2, y2, c2, (v, x3, y3, k3, (equals, x4, y4, c4, (same, none), e4), e3), e2), e1), e) = (right, on, equals, same)

inners_join : (a : List ℕ) (s : Source) (w : List Token) → Inners a s w → IsJoin a s
inners_join a s w (inl (u, x, y, k, (v, x1, y1, k1, joins, e1), e)) = joins_two a s y1 joins
inners_join a s w (inr (u, x, y, k, joins, e)) = joins_two a s y joins

-- ---- items that are all columns

first_true : (a b : Bool) → (a && b) ≡ true → a ≡ true
first_true true b e = refl
first_true false b e = absurd (cc e)

second_true : (a b : Bool) → (a && b) ≡ true → b ≡ true
second_true true b e = e
second_true false b e = absurd (cc e)

and_last : (a x y z : Bool) → x ≡ (y && z) → (a && x) ≡ ((a && y) && z)
and_last true x y z e = e
and_last false x y z e = refl

and_true : (a : Bool) → (a && true) ≡ a
and_true true = refl
and_true false = refl

columns_end : (items : List Item) (i : Item) → all_columns (items ++ i ∷ []) ≡ (all_columns items && is_column i)
columns_end [] i = and_true (is_column i)
columns_end (j ∷ items) i = and_last (is_column j) (all_columns (items ++ i ∷ [])) (all_columns items) (is_column i) (columns_end items i)

other_item : (i j : Item) → i ≡ j → is_column j ≡ false → is_column i ≡ true → ⊥
other_item i j e n c = let both : true ≡ false = sym c ∙ ap is_column e ∙ n in absurd (cc both)

-- a list of plain columns
abbrev plain : List ColumnName → List Item
plain columns = map I.Column columns

are_columns : (columns : List ColumnName) → all_columns (plain columns) ≡ true
are_columns [] = refl
are_columns (c ∷ columns) = are_columns columns

names_of : (columns : List ColumnName) → flat_map named_by (plain columns) ≡ columns
names_of [] = refl
names_of (c ∷ columns) = ap (λ l. c ∷ l) (names_of columns)

abbrev ColumnOf : Item → List Token → Type 0
ColumnOf i w = (a : ColumnName) × Column a w × (i ≡ I.Column a)

to_column : (i : Item) (w : List Token) → OneItem i w → is_column i ≡ true → ColumnOf i w
to_column i w (inl (u, x, y, k, (u1, x1, y1, k1, (j, x2, y2, inl (u3, x3, y3, k3, (is, n3), e3), (u4, x4, y4, k4, (same, n4), e4), e2), e1), e)) c =
    absurd (other_item i I.CountAll (same ∙ is) refl c)
to_column i w (inl (u, x, y, k, (u1, x1, y1, k1, (j, x2, y2, inr (a, x3, y3, k3, (is, n3), e3), (u4, x4, y4, k4, (same, n4), e4), e2), e1), e)) c =
    absurd (other_item i (I.Count a) (same ∙ is) refl c)
to_column i w (inr (inl (u, x, y, k, (a, x1, y1, k1, (is, n), e1), e))) c = absurd (other_item i (I.Sum a) is refl c)
to_column i w (inr (inr (inl (u, x, y, k, (a, x1, y1, k1, (is, n), e1), e)))) c = absurd (other_item i (I.Min a) is refl c)
to_column i w (inr (inr (inr (inl (u, x, y, k, (a, x1, y1, k1, (is, n), e1), e))))) c = absurd (other_item i (I.Max a) is refl c)
to_column i w (inr (inr (inr (inr (a, x, y, h, (is, n), e))))) c = (a, subst (Column a) (sym (e ∙ ap (λ zs. x ++ zs) n ∙ append-nil x)) h, is)

of_column : (a : ColumnName) (w : List Token) → Column a w → OneItem (I.Column a) w
of_column a w h = inr (inr (inr (inr (a, w, [], h, (refl, refl), sym (append-nil w)))))

abbrev More : {V : Type 0} → (V → List Token → Type 0) → List V → List V → List Token → Type 0
More A = Iter (Next (key M.Comma) (λ s v. s ++ v ∷ []) A)

more_of_columns : (s v : List ColumnName) (ts : List Token) → More Column s v ts → More OneItem (plain s) (plain v) ts
more_of_columns _ _ _ (stop s) = stop (plain s)
more_of_columns _ _ _ (turn s m v x xs (u, p, q, k, (i, a, b, h, (is, n), e1), e) ms) =
    turn (plain s) (plain m) (plain v) x xs (u, p, q, k, (I.Column i, a, b, of_column i a h, (ap plain is ∙ map_push I.Column s i, n), e1), e) (more_of_columns m v xs ms)

more_to_columns : (s v : List Item) (ts : List Token) → More OneItem s v ts → all_columns v ≡ true → More Column (flat_map named_by s) (flat_map named_by v) ts × (all_columns s ≡ true)
more_to_columns _ _ _ (stop s) c = (stop (flat_map named_by s), c)
more_to_columns _ _ _ (turn s m v x xs (u, p, q, k, (i, a, b, h, (is, n), e1), e) ms) c =
    let more = more_to_columns m v xs ms c in
    let both : (all_columns s && is_column i) ≡ true = sym (ap all_columns is ∙ columns_end s i) ∙ more.1 in
    let one : ColumnOf i a = to_column i a h (second_true (all_columns s) (is_column i) both) in
    let names : flat_map named_by m ≡ flat_map named_by s ++ one.0 ∷ [] =
    ap (flat_map named_by) is ∙ sym (flat_map_more named_by [] s i) ∙ ap (λ j. flat_map named_by s ++ named_by j) one.2 in
    (turn (flat_map named_by s) (flat_map named_by m) (flat_map named_by v) x xs (u, p, q, k, (one.0, a, b, one.1, (names, n), e1), e) more.0, first_true (all_columns s) (is_column i) both)

list_of_columns : (columns : List ColumnName) (ts : List Token) → Listed (key M.Comma) Column columns ts → Listed (key M.Comma) OneItem (plain columns) ts
list_of_columns columns ts (i, x, y, h, ms, e) = (I.Column i, x, y, of_column i x h, more_of_columns (i ∷ []) columns y ms, e)

list_to_columns : (items : List Item) (ts : List Token) → Listed (key M.Comma) OneItem items ts → all_columns items ≡ true → Listed (key M.Comma) Column (flat_map named_by items) ts
list_to_columns items ts (i, x, y, h, ms, e) c =
    let more = more_to_columns (i ∷ []) items y ms c in
    let one : ColumnOf i x = to_column i x h (first_true (is_column i) true more.1) in
    (one.0, x, y, one.1, subst (λ l. More Column l (flat_map named_by items) y) (ap (λ j. named_by j ++ []) one.2) more.0, e)

-- ---- GROUP BY after one table alone

module _ (items : List Item) (cond : Option Search) where
  abbrev Ends : Source → Stmt → List Token → Type 0
  Ends source = Bind (Groups source) (λ group. Empty (of_items items source cond group))

  ends_table : (source : Source) (a : List ℕ) → source ≡ F.Table a → (s : Stmt) (w : List Token) → Ends source s w → Ends (F.Table a) s w
  ends_table source a e s w h = subst (λ f. Ends f s w) e h

  abbrev AsRows : Source → Stmt → List Token → Type 0
  AsRows source = Empty (rows (Some (flat_map named_by items)) source cond)

  ends_join : (source : Source) (a : List ℕ) → IsJoin a source → (s : Stmt) (w : List Token) → Ends source s w → AsRows source s w
  ends_join (F.Table b) a (right, on, equals, e) s w h = absurd (cc e)
  ends_join (F.Join b r o q) a is s w (group, x, y, (none, nx), (same, ny), e) = (same, e ∙ ap (λ zs. zs ++ y) nx ∙ ny)

  join_ends : (source : Source) (a : List ℕ) → IsJoin a source → (s : Stmt) (w : List Token) → AsRows source s w → Ends source s w
  join_ends (F.Table b) a (right, on, equals, e) s w h = absurd (cc e)
  join_ends (F.Join b r o q) a is s w (same, n) = (None, [], [], (refl, refl), (same, refl), n)

module _ (text : List ℕ) where
  abbrev Filtered : Option (List ColumnName) → Source → Stmt → List Token → Type 0
  Filtered list source = Bind (Where text) (λ cond. Empty (rows list source cond))

  -- ---- a list

  abbrev Two : Stmt → List Token → Type 0
  Two = Either (ColumnsOfJoin text) (ItemsOfTable text)

  to_two : (s : Stmt) (ts : List Token) → Itemized text s ts → Two s ts
  to_two s ts (items, x, y, h, (u, from, y1, k, (a, xn, y2, n, (source, xs, y3, hs, rest, e3), e2), e1), e) = go (all_columns items) refl hs where
    join : all_columns items ≡ true → Inners a source xs → Two s ts
    join c inners = inl (
      flat_map named_by items,
      x,
      y,
      list_to_columns items x h c,
      (
        u,
        from,
        y1,
        k,
        (
          source,
          xn ++ xs,
          y3,
          (a, xn, xs, n, inners, refl),
          then_so (Where text) (λ cond. Ends items cond source) (λ cond. AsRows items cond source)
              (λ cond s w ends. ends_join items cond source a (inners_join a source xs inners) s w ends) s y3 rest,
          e2 ∙ ap (λ zs. xn ++ zs) e3 ∙ sym (append_assoc xn xs y3),
        ),
        e1,
      ),
      e,
    )

    table : source ≡ F.Table a → xs ≡ [] → Two s ts
    table is none = inr (
      items,
      x,
      y,
      h,
      (
        u,
        from,
        y1,
        k,
        (
          a,
          xn,
          y3,
          n,
          then_so (Where text) (λ cond. Ends items cond source) (λ cond. Ends items cond (F.Table a))
              (λ cond s w ends. ends_table items cond source a is s w ends) s y3 rest,
          e2 ∙ ap (λ zs. xn ++ zs) (e3 ∙ ap (λ zs. zs ++ y3) none),
        ),
        e1,
      ),
      e,
    )

    go : (b : Bool) → all_columns items ≡ b → Sources b a source xs → Two s ts
    go false c (is, none) = table is none
    go true c (inl joined) = join c (inl joined)
    go true c (inr (inl joined)) = join c (inr joined)
    go true c (inr (inr (is, none))) = table is none

  behind_of : (a : List ℕ) (source : Source) (w : List Token) → Inners a source w → AfterName a source w
  behind_of a source w (inl h) = inl h
  behind_of a source w (inr h) = inr (inl h)

  table_alone : (b : Bool) (a : List ℕ) → Sources b a (F.Table a) []
  table_alone true a = inr (inr (refl, refl))
  table_alone false a = (refl, refl)

  of_two : (s : Stmt) (ts : List Token) → Two s ts → Itemized text s ts
  of_two s ts (inl (columns, x, y, h, (u, from, y1, k, (source, xj, y3, (a, xn, xs, n, inners, ej), rest, e2), e1), e)) =
      let items = plain columns in
      let same : rows (Some columns) source ≡ rows (Some (flat_map named_by items)) source = ap (λ l. rows (Some l) source) (sym (names_of columns)) in (
        items,
        x,
        y,
        list_of_columns columns x h,
        (
          u,
          from,
          y1,
          k,
          (
            a,
            xn,
            xs ++ y3,
            n,
            (
              source,
              xs,
              y3,
              subst (λ b. Sources b a source xs) (sym (are_columns columns)) (behind_of a source xs inners),
              then_so (Where text) (λ cond. Empty (rows (Some columns) source cond)) (λ cond. Ends items cond source)
                  (λ cond s w ends. join_ends items cond source a (inners_join a source xs inners) s w (ends.0 ∙ (λ t. same t cond), ends.1)) s y3 rest,
              refl,
            ),
            e2 ∙ ap (λ zs. zs ++ y3) ej ∙ append_assoc xn xs y3,
          ),
          e1,
        ),
        e,
      )
  of_two s ts (inr (items, x, y, h, (u, from, y1, k, (a, xn, y3, n, rest, e2), e1), e)) =
      (items, x, y, h, (u, from, y1, k, (a, xn, y3, n, (F.Table a, [], y3, table_alone (all_columns items) a, rest, refl), e2), e1), e)

  -- ---- and `*`

  to_all : (s : Stmt) (ts : List Token) → Starred text s ts → Bind (OneToken (key M.From)) (λ _. Bind OneSource (Filtered None)) s ts
  to_all s ts (u, x, y, k, h, e) = (u, x, y, k, first_so (Bind (OneToken name_of) AfterName) OneSource (Filtered None) to_source s y (bind_left (OneToken name_of) AfterName (Filtered None) s y h), e)

  of_all : (s : Stmt) (ts : List Token) → Bind (OneToken (key M.From)) (λ _. Bind OneSource (Filtered None)) s ts → Starred text s ts
  of_all s ts (u, x, y, k, h, e) = (u, x, y, k, bind_right (OneToken name_of) AfterName (Filtered None) s y (first_so OneSource (Bind (OneToken name_of) AfterName) (Filtered None) of_source s y h), e)

  pub to_forms : (s : Stmt) (ts : List Token) → Selection text s ts → ThreeForms text s ts
  to_forms s ts (inl (u, x, y, k, h, e)) = inl (u, x, y, k, to_all s y h, e)
  to_forms s ts (inr h) = inr (to_two s ts h)

  pub of_forms : (s : Stmt) (ts : List Token) → ThreeForms text s ts → Selection text s ts
  of_forms s ts (inl (u, x, y, k, h, e)) = inl (u, x, y, k, of_all s y h, e)
  of_forms s ts (inr h) = inr (of_two s ts h)
