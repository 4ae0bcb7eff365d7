use Rattle.std.specs.FinMap.{get}
use Rattle.kernel_core.specs.Nodes.{file_in, listing_in, target_in}
use Rattle.kernel_core.specs.Queries.{FileKind, DirectoryKind, LinkKind}
use Rattle.file_system_laws.proofs.HeldNodes.{told, file_kind, listing_kind, target_kind}
use Rattle.file_system_laws.proofs.held_nodes.the_kind_of_a_node_tells_its_content.Goals as goal

pub returns : goal.returns
returns c = record {
  file = λ nodes number. told file_in FileKind file_kind (get nodes number);
  directory = λ nodes number. told listing_in DirectoryKind listing_kind (get nodes number);
  link = λ nodes number. told target_in LinkKind target_kind (get nodes number);
}
