-- What is told of a table that was grown for a file.
use Rattle.std.proofs.Common.{ℕ, List, Ok, Err, Result, refl, ap, inl, inr}
use Rattle.reach.specs.Tables.{Table}
use Rattle.planning.specs.declared.book.Book.{Book}
use Rattle.planning.specs.declared.refusal.Refusal.{Refusal}
use Rattle.boundary.specs.declared.pile.Layers.{Layers}
use Rattle.boundary.specs.declared.Grown.{Grown}
use Rattle.boundary.specs.Piles.{layered, IsLayers, sharing_of}
use Rattle.boundary.specs.Tables.{FileGrown, TellsOf, TableWritten, refused, short, grown}

module _ (tf : List ℕ) (pile : ℕ) (ws fs : List ℕ) (l : Layers) (is : IsLayers pile ws fs l) (rule k : ℕ) (tb tb' : Table) where
  pub table_written : (r : Result Book Refusal) (g : Grown) → FileGrown tf l (sharing_of rule) k tb r tb' → TellsOf r g
      → TableWritten tf pile ws fs rule k tb g tb'
  table_written (Ok b) g (inl (never, _)) tells = absurd never
  table_written (Ok b) g (inr (below, bytes, by)) tells =
      rw tells (grown (layered l below) (l, is, (below, bytes, refl)) refl refl by)
  table_written (Err e) g (inl (first, same)) tells = rw tells (refused first (refl, refl) same)
  table_written (Err e) g (inr (below, bytes, (few, is_9, same))) tells =
      rw tells (short (layered l below) (l, is, (below, bytes, refl)) few (ap (λ (x : ℕ × ℕ). x.0) is_9) (ap (λ (x : ℕ × ℕ). x.1) is_9)
      (refl, refl) same)
