-- What was found of a file, as what the bytes tell.
use Rattle.std.proofs.Common.{◌≡◌, sym, ap, subst, refl, ◌∙◌, ℕ, List, Some, None, Ok, Err, Result, IfOk, IfErr}
use Rattle.std.proofs.Common.{MatchResult, ◌⊎◌, inl, inr}
use Rattle.serde_json.specs.Data.{Data}
use Rattle.resource_graph.specs.NamedGraph.{NamedGraph}
use Rattle.graph_build.specs.Raw.{IsBuiltFrom, raw_graph, raw_names}
use Rattle.graph_build.specs.Table.{IsFirstFault as IsFirstGraphFault}
use Rattle.graph_build.proofs.OneGraph.{one_graph}
use Rattle.graph_build.proofs.RowLaws.{nothing_told}
use Rattle.graph_json.specs.Nodes.{FileNode, nodes_of}
use Rattle.graph_json.specs.Edges.{edges_of, IsWrongEdge, IsFirstWrong}
use Rattle.graph_json.specs.Ids.{ids_of, IsRepeated}
use Rattle.graph_json.specs.RawLists.{kinds_of}
use Rattle.graph_json.specs.GraphFile.{FileLists, GraphFile, lists_of, file_of}
use Rattle.graph_json.specs.GraphText.{IsValueOf, IsGraphText, Says, HasDistinctIds, HasRightEdges, HasMisfit}
use Rattle.graph_json.specs.GraphText.{HasUnfitEdge, IsFirstFault, IsToldAs, IsEdgeToldAs, IsFirstRawFault, raw_of}
use Rattle.graph_json.specs.FieldPaths.{FileMisfit}
use Rattle.graph_json.specs.declared.edges.EdgeFault.{EdgeFault}
use Rattle.graph_json.specs.declared.edges.EdgeFault.TheVariants.{Unfit, Wrong}
use Rattle.graph_json.specs.declared.faults.ReadFault.{ReadFault}
use Rattle.graph_json.specs.declared.faults.ReadFault.TheVariants.{NotJson, Field, DuplicateNode, Edge, Graph, Memory}

-- a case that is known
pub matched_ok : {A B : Type 0} (P : A → Type 0) (Q : B → Type 0) (r : Result A B) (x : A) →
    r ≡ Ok x → MatchResult r P Q → P x
matched_ok P Q r x e h = subst (λ s. MatchResult s P Q) e h

pub matched_err : {A B : Type 0} (P : A → Type 0) (Q : B → Type 0) (r : Result A B) (x : B) →
    r ≡ Err x → MatchResult r P Q → Q x
matched_err P Q r x e h = subst (λ s. MatchResult s P Q) e h

-- the file with these lists and nodes
abbrev pub file_with : FileLists → List FileNode → GraphFile
file_with lists nodes = record { nodes = nodes; edges = edges_of 0 lists.edges }

pub file-read : (d : Data) (lists : FileLists) (nodes : List FileNode) →
    Ok lists ≡ lists_of d → Ok nodes ≡ nodes_of 0 lists.nodes → file_of d ≡ Ok (file_with lists nodes)
file-read d lists nodes listed read = rw (← listed, ← read) refl

module _ (bytes : List ℕ) where
  pub told_misfit : (m : FileMisfit) (fault : ReadFault) → IsToldAs m fault → HasMisfit bytes m ⊎ HasUnfitEdge bytes m →
      IsFirstFault bytes fault
  told_misfit m NotJson told has = absurd told
  told_misfit m (Field path fault) told has = (m, told.0, told.1, has)
  told_misfit m (DuplicateNode at) told has = absurd told
  told_misfit m (Edge at) told has = absurd told
  told_misfit m (Graph fault) told has = absurd told
  told_misfit m Memory told has = tt

  module _ (file : GraphFile) (says : Says bytes file) where
    pub told_edge : HasDistinctIds file → (wrong : EdgeFault) (fault : ReadFault) →
        IsFirstWrong (ids_of file.nodes) file.edges wrong → IsEdgeToldAs wrong fault → IsFirstFault bytes fault
    told_edge distinct (Unfit m) fault first told = told_misfit m fault told (inr (file, says, distinct, first))
    told_edge distinct (Wrong at) fault first told = subst (λ f. IsFirstFault bytes f) (sym told)
        (file, says, distinct, first)

    pub told_raw : HasRightEdges file → (fault : ReadFault) →
        IsFirstRawFault (kinds_of file.nodes) (raw_of file) fault → IsFirstFault bytes fault
    told_raw right NotJson told = absurd told
    told_raw right (Field path fault) told = absurd told
    told_raw right (DuplicateNode at) told = absurd told
    told_raw right (Edge at) told = absurd told
    told_raw right (Graph fault) told = (file, says, right, told.0, told.1)
    told_raw right Memory told = tt

same_value : (bytes : List ℕ) (c d : Data) → IsValueOf bytes c → IsValueOf bytes d → c ≡ d
same_value bytes c d one other = let same : Some c ≡ Some d = sym one ∙ other in cc

pub same_file : (bytes : List ℕ) (a b : GraphFile) → Says bytes a → Says bytes b → a ≡ b
same_file bytes a b (c, value, file) (d, other, again) =
    let same : Ok a ≡ Ok b = sym file ∙ (ap file_of (same_value bytes c d value other) ∙ again) in
    cc

-- bytes are a graph file of at most one graph
pub one_graph_told : (bytes : List ℕ) (g h : NamedGraph) → IsGraphText bytes g → IsGraphText bytes h → g ≡ h
one_graph_told bytes g h (file, says, right, built, fine) (other, said, right-too, built-too, fine-too) =
    one_graph (kinds_of file.nodes) (raw_of file) g h built (subst (λ (f : GraphFile).
    IsBuiltFrom (kinds_of f.nodes) (raw_of f) h) (same_file bytes other file said says) built-too)

-- a graph file has no fault
pub no_fault_told : (bytes : List ℕ) (g : NamedGraph) (fault : ReadFault) → IsGraphText bytes g →
    IsFirstFault bytes fault → fault ≡ Memory
no_fault_told bytes g NotJson (file, says, right, built, fine) told =
    absurd (let none : None ≡ Some says.0 = sym told ∙ says.1 in cc)
no_fault_told bytes g (Field path fault) (file, says, right, built, fine) (m, path-is, fault-is, has) = absurd (by has)
  where
    by : HasMisfit bytes m ⊎ HasUnfitEdge bytes m → ⊥
    by (inl (d, value, misfit)) =
        let same : Ok file ≡ Err m = sym says.2 ∙ (ap file_of (same_value bytes says.0 d says.1 value) ∙ misfit) in cc
    by (inr (other, said, distinct, first)) =
        right.1 first.at (subst (λ (f : GraphFile). IsWrongEdge (ids_of f.nodes) f.edges first.at)
        (same_file bytes other file said says) first.wrong)
no_fault_told bytes g (DuplicateNode at) (file, says, right, built, fine) (other, said, least) =
    absurd (right.0 at
    (subst (λ (f : GraphFile). IsRepeated (ids_of f.nodes) at) (same_file bytes other file said says) least.0))
no_fault_told bytes g (Edge at) (file, says, right, built, fine) (other, said, distinct, first) =
    absurd (right.1 first.at (subst (λ (f : GraphFile). IsWrongEdge (ids_of f.nodes) f.edges first.at)
    (same_file bytes other file said says) first.wrong))
no_fault_told bytes g (Graph fault) (file, says, right, built, fine) (other, said, right-too, told, not) =
    absurd (not (nothing_told (raw_graph (kinds_of file.nodes) (raw_of file)) (raw_names (raw_of file)) fault fine
    (subst (λ (f : GraphFile). IsFirstGraphFault (raw_graph (kinds_of f.nodes) (raw_of f)) (raw_names (raw_of f)) fault)
    (same_file bytes other file said says) told)))
no_fault_told bytes g Memory text told = refl

-- bytes that are a graph file of a graph are read as that graph, or memory is wanting
pub one_answer : (bytes : List ℕ) (r : Result NamedGraph ReadFault) → IfOk r (IsGraphText bytes) →
    IfErr r (IsFirstFault bytes) → (g : NamedGraph) → IsGraphText bytes g → (r ≡ Ok g) ⊎ (r ≡ Err Memory)
one_answer bytes (Ok h) read told g text = inl (ap Ok (one_graph_told bytes h g read text))
one_answer bytes (Err fault) read told g text = inr (ap Err (no_fault_told bytes g fault text told))
