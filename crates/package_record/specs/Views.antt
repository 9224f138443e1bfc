-- How contracts see the fields of a record.
use Rattle.package_record.specs.Content.{Content}
use Rattle.package_record.specs.declared.fields.Fields.{Fields}

-- the contents of the record with these fields
abbrev pub content_of : Fields → Content
content_of r = record {
  path = r.path;
  name = r.name;
  host = r.host;
  claim = r.claim;
  built = r.built;
  run = r.run.items;
  files = r.files;
}
