pub mod RealFile
