mod RealFile
