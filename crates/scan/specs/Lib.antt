-- The inverse scan (7.4.2) as functions over the integers.
pub mod Scan
