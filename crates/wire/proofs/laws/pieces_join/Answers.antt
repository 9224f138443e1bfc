use Rattle.package_record.proofs.BuildsRead.{build_is_read}
use Rattle.package_record.proofs.BuildsTaken.{whole_build_taken}
use Rattle.wire.proofs.Cutting.{equal_headers, headers_say_all, joined_is, message_again, pieces_join, pieces_join_in_any_order, split_good, split_pieces}
use Rattle.wire.proofs.laws.pieces_join.Goals as goal

pub returns-clause-datagrams : goal.returns-clause-datagrams
returns-clause-datagrams c = split_good

pub returns-clause-pieces : goal.returns-clause-pieces
returns-clause-pieces c = split_pieces

pub returns-clause-joined : goal.returns-clause-joined
returns-clause-joined c = pieces_join build_is_read

pub returns-clause-message : goal.returns-clause-message
returns-clause-message c = joined_is whole_build_taken

pub returns-clause-with_header : goal.returns-clause-with_header
returns-clause-with_header c = message_again

pub returns-clause-headers : goal.returns-clause-headers
returns-clause-headers c = headers_say_all

pub returns-clause-any_order : goal.returns-clause-any_order
returns-clause-any_order c = pieces_join_in_any_order build_is_read

pub returns-clause-equal_headers : goal.returns-clause-equal_headers
returns-clause-equal_headers c = equal_headers
